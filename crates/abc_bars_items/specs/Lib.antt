pub mod Column
pub mod Item
pub mod StoredTones
pub mod TonesView
pub mod Program
pub mod Velocity
