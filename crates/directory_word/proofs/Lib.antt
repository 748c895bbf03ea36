pub mod LeafLaws
pub mod WordLaws
