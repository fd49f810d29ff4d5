pub mod Alternations
pub mod Shares
