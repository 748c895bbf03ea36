pub mod ClearedLaws
pub mod DecodedLaws
pub mod JoinedLaws
pub mod NumberLaws
pub mod PromiseLaws
