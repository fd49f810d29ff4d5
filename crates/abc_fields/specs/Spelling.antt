-- How the values of fields are spelled.
pub mod Accidental
pub mod Clef
pub mod Key
pub mod Listed
pub mod Meter
pub mod Mode
pub mod Parts
pub mod Property
pub mod Shift
pub mod Tempo
pub mod Tonic
pub mod Unit
pub mod Voice
