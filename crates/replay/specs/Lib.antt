pub mod Private
pub mod Replayed
