pub mod AcceptedLaws
pub mod FoundLaws
pub mod GuardLaws
pub mod SoundPageLaws
