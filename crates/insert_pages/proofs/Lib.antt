pub mod CarriedLaws
pub mod InsertedLaws
