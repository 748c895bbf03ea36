pub mod Bytes
pub mod Lanes
pub mod Packed
pub mod Record
