pub mod Difference
pub mod Embedding
pub mod Members
pub mod Moves
pub mod Order
pub mod Owners
pub mod Within
