pub mod LendsLaws
