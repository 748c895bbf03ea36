pub mod Found
pub mod Planned
