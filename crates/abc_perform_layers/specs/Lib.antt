pub mod KeepStep
pub mod Layer
pub mod LayerState
pub mod LayerStep
pub mod Limit
