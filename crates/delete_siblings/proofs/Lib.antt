pub mod ClimbLaws
pub mod KeyLaws
pub mod SiblingLaws
pub mod WordLaws
