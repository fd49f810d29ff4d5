pub mod Items
pub mod OneByOne
pub mod Parts
pub mod Settled
pub mod Without
