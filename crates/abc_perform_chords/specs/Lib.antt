pub mod Keys
pub mod PatternSteps
