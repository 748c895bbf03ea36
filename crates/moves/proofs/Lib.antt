pub mod MoveLaws
pub mod PasteLaws
