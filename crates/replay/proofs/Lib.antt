pub mod CountLaws
pub mod PartLaws
pub mod RanLaws
pub mod ReplayedLaws
