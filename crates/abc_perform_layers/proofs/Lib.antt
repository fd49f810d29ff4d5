pub mod KeptStep
