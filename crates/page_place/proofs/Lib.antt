pub mod FoundLaws
pub mod OneLaws
pub mod SortedLaws
