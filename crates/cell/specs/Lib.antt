pub mod Cell
pub mod Laws
