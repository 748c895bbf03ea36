pub mod CodeLaws
pub mod ByteLaws
pub mod KeyLaws
pub mod AscendLaws
pub mod PageLaws
