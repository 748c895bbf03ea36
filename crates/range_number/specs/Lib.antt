pub mod Ends
pub mod Number
