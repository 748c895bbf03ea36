pub mod CarryLaws
pub mod FreeLaws
pub mod PageLaws
pub mod PutLaws
