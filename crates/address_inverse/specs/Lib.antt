pub mod Appended
pub mod Private
