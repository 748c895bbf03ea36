pub mod CallLaws
pub mod EncodedLaws
pub mod StoreLaws
