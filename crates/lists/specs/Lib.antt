pub mod Filter
pub mod Members
