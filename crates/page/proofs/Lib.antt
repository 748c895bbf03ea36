pub mod ChangeLaws
pub mod FieldLaws
pub mod PageLaws
pub mod PartLaws
pub mod PlaceLaws
