pub mod Order
pub mod Private
