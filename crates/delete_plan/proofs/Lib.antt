pub mod BesideLaws
pub mod FairLaws
pub mod MetLaws
pub mod PairLaws
