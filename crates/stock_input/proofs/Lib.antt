pub mod InputLaws
pub mod PrintedLaws
