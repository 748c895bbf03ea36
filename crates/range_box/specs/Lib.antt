pub mod Box
pub mod Prefix
