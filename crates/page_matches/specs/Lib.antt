pub mod KeyPlace
pub mod Mask
pub mod Output
pub mod Pattern
pub mod Within
