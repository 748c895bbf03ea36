pub mod EarlyLaws
pub mod EndLaws
