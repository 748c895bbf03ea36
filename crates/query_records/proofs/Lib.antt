pub mod ListHitLaws
pub mod ListLaws
pub mod MatchedLaws
