pub mod Sibling
