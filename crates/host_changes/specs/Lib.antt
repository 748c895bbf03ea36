pub mod Changes
pub mod Fresh
pub mod Load
