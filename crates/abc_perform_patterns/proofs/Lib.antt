pub mod Bars
pub mod Counts
pub mod Filled
