pub mod Least
pub mod Maps
pub mod SettledState
