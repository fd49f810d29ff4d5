pub mod Entries
pub mod Laws
pub mod Play
pub mod Sounds
pub mod Stage
pub mod Steps
pub mod Timed
pub mod Turns
