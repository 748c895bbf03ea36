pub mod DividedLaws
pub mod LeafLaws
pub mod RegionLaws
pub mod SumLaws
