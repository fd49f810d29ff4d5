pub mod Bars
pub mod Fits
pub mod KeptBounds
pub mod KeptStep
pub mod Plain
pub mod Steps
