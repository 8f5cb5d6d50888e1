pub mod FixtureLaws
