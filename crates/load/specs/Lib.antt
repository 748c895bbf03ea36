pub mod Lengths
pub mod Private
