pub mod StatusMaps
