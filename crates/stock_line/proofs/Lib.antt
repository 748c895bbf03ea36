pub mod FieldLaws
pub mod ReadingLaws
pub mod LineLaws
pub mod WordLaws
pub mod ShownLaws
