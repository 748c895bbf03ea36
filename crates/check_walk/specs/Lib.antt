pub mod Regions
pub mod Sums
