pub mod FitLaws
pub mod LentLaws
pub mod LimitsLaws
pub mod PassedLaws
pub mod NumberLaws
