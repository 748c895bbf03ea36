pub mod ChangeLaws
pub mod FreshLaws
pub mod LoadLaws
