pub mod Bars
pub mod Fields
pub mod Plays
pub mod Runs
pub mod Session
pub mod Tokens
pub mod Tunes
