pub mod Depthless
pub mod Result
pub mod Settled
pub mod Wanted
