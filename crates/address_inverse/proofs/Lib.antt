pub mod InverseLaws
