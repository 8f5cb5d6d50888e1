pub mod DrainLaws
pub mod RoomLaws
pub mod RunLaws
