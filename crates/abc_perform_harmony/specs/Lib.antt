pub mod Harmony
pub mod KeepStep
pub mod ProgramItems
pub mod StepItem
pub mod StretchItems
