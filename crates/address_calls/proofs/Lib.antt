pub mod AnswerLaws
pub mod RoundTripLaws
