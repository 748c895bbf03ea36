pub mod BlockLaws
pub mod CellLaws
pub mod DoublingLaws
pub mod LatestLaws
pub mod MaskLaws
pub mod RegionLaws
pub mod SubsetLaws
pub mod WeightLaws
