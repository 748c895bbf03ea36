pub mod Delete
pub mod Divided
