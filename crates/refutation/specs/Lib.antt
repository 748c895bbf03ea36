pub mod Files
pub mod ShapeFaults
pub mod Stores
pub mod TableStore
