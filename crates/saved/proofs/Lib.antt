pub mod ActionLaws
pub mod AlikeLaws
pub mod EqualSetLaws
pub mod HistoryFromLaws
pub mod JoinLaws
pub mod ReloadLaws
pub mod SavedLaws
