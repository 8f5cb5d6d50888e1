pub mod EntryLaws
pub mod ExchangeLaws
