pub mod Laws
pub mod Order
pub mod Play
pub mod Step
