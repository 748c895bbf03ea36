pub mod HalvedLaws
