pub mod FaultNames
pub mod Owned
pub mod PlayCopies
pub mod Puts
pub mod Refusals
pub mod Sessions
pub mod TextChanges
pub mod TokenCopies
