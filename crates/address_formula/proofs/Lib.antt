pub mod DigitLaws
pub mod LatestPairLaws
