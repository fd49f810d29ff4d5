pub mod Splices
pub mod Work
