pub mod Directory
pub mod Blocks
