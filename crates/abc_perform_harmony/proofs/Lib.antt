pub mod Keys
pub mod NextStep
pub mod Taken
