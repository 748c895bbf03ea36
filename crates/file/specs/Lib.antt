pub mod Answers
pub mod File
pub mod Loading
pub mod Promises
