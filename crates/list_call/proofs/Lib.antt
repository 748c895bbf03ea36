pub mod LentLaws
pub mod ListPromiseLaws
pub mod PageLaws
