pub mod AgreeLaws
pub mod CellLaws
pub mod HalfLaws
pub mod Strings
