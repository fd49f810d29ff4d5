pub mod Givers
pub mod ToneGivers
