pub mod EntryLaws
pub mod SessionLaws
pub mod WrittenLaws
