pub mod EndLaws
pub mod PlainLaws
pub mod WholeLaws
