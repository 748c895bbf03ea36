pub mod BitLaws
pub mod CellLaws
