pub mod Bars
pub mod Blocks
pub mod Counting
pub mod Headers
pub mod Opened
pub mod Repeats
pub mod VoiceStates
pub mod Values
