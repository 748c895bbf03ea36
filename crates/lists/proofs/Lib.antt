pub mod Bools
pub mod FilterLaws
pub mod FindLaws
pub mod MemberLaws
pub mod Numbers
pub mod Sequences
pub mod Shifts
