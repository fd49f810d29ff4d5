pub mod BaseHalf
pub mod CellMarks
pub mod LineCells
pub mod PerformedSteps
