pub mod BoxLaws
pub mod Example
pub mod NumberLaws
pub mod PrefixLaws
pub mod RangeLaws
pub mod RegionLaws
