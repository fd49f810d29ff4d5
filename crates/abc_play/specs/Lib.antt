pub mod File
pub mod Laws
pub mod Places
pub mod Play
pub mod Refusal
