pub mod Shelf
