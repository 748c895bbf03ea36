pub mod CallLaws
pub mod PromiseLaws
