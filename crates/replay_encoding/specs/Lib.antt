pub mod Encoded
pub mod Encoding
pub mod Words
