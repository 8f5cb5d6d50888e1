pub mod MetaLaws
