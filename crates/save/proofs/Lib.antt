pub mod CallLaws
pub mod OutputLaws
pub mod PromiseLaws
