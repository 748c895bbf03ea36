pub mod Amiss
pub mod Integers
pub mod Key
pub mod Range
pub mod Refusal
pub mod Shape
