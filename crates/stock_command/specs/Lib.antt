pub mod Asked
pub mod Commands
pub mod Session
