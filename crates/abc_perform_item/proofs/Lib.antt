pub mod Fermatas
pub mod GraceTimes
pub mod KeptTime
pub mod Wholes
