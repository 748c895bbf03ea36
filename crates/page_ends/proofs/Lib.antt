pub mod AgreeLaws
pub mod BeginLaws
pub mod Example
pub mod FairLaws
pub mod FixedLaws
pub mod MaskLaws
pub mod SoundLaws
pub mod StepLaws
