pub mod Bits
pub mod Steps
