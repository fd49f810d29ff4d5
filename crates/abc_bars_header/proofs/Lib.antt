pub mod NamePlaces
pub mod NamedLists
