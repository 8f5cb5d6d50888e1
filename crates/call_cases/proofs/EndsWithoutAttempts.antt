pub mod Unconfigured
