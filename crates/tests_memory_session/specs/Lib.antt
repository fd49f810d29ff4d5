pub mod TitledTune
