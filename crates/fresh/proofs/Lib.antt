pub mod CountLaws
pub mod LimitLaws
pub mod PromiseLaws
