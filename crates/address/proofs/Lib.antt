pub mod AppendLaws
pub mod BoxLaws
pub mod DoublingLaws
pub mod LatestLaws
pub mod MapLaws
pub mod SideLaws
