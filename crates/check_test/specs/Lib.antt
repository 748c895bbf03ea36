pub mod Codes
pub mod Test
pub mod Walk
