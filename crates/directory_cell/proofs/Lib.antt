pub mod KeyLaws
pub mod ReverseLaws
