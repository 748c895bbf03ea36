pub mod Digits
pub mod Index
pub mod LatestPair
