pub mod Address
pub mod Doubling
pub mod Map
pub mod Vectors
