pub mod Ends
pub mod Fair
