pub mod CutLaws
pub mod EndLaws
pub mod FullLaws
pub mod HalfLaws
pub mod MetLaws
pub mod RefusalLaws
pub mod SplitLaws
