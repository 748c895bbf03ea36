pub mod CallLaws
pub mod DivideLaws
pub mod DividedLaws
pub mod EarlyLaws
pub mod HalfLaws
pub mod SplitLaws
pub mod TakeLaws
