pub mod Gcd
pub mod Grains
pub mod Length
pub mod Limits
pub mod Product
pub mod Ratio
pub mod Tempo
