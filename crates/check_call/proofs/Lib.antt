pub mod CheckLaws
pub mod TallyLaws
