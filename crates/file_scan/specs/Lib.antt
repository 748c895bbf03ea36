pub mod Asked
pub mod Scan
