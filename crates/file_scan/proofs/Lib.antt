pub mod Example
pub mod GrowthLaws
pub mod MetLaws
pub mod ModelLaws
pub mod RisingLaws
pub mod StepLaws
pub mod TurnLaws
pub mod WindowLaws
