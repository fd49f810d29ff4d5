pub mod Block
pub mod Pass
pub mod Laws
pub mod Stretch
