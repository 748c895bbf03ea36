pub mod Private
pub mod Siblings
