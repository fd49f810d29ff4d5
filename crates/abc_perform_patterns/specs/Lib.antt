pub mod MeterPattern
pub mod KeepStep
pub mod Stretch
