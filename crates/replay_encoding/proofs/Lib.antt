pub mod EncodedLaws
pub mod EncodingLaws
