pub mod BoundLaws
pub mod BoxLaws
pub mod SeenLaws
pub mod StartLaws
pub mod TurnLaws
