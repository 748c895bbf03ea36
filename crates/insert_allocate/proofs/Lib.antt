pub mod AllocateLaws
