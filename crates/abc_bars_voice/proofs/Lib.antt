pub mod Alike
pub mod Canonical
pub mod Groups
pub mod Reaching
pub mod WholeParts
