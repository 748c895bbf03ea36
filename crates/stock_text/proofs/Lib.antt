pub mod DecimalLaws
pub mod Example
pub mod GrownLaws
pub mod TextLaws
