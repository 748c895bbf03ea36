pub mod ResultLaws
pub mod SettledLaws
pub mod ToldLaws
