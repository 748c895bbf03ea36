pub mod Met
pub mod Plan
