pub mod Numbers
pub mod Lending
pub mod LentLaws
pub mod ValueLaws
