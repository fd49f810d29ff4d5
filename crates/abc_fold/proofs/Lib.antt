pub mod Alike
pub mod Folding
pub mod Following
pub mod Kept
pub mod Raised
