pub mod Actions
pub mod Again
pub mod Saved
