pub mod Meeting
pub mod Private
