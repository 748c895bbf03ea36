pub mod Line
pub mod LineBytes
