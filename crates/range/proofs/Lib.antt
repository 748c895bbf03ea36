pub mod BoxLaws
pub mod CallLaws
pub mod PromiseLaws
