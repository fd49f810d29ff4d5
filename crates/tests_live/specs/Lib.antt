pub mod HeldJobs
pub mod MarkedToy
pub mod Opened
pub mod Toy
pub mod ToyLaws
pub mod Values
