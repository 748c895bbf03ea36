pub mod Between
pub mod Private
