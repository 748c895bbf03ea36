pub mod Corners
pub mod Private
pub mod Rows
pub mod Vectors
