pub mod PageBytes
pub mod Private
