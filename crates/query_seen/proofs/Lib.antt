pub mod BoundLaws
pub mod DivisionLaws
pub mod SeenLaws
pub mod StoreLaws
