pub mod BaseHalves
pub mod MarkedSteps
