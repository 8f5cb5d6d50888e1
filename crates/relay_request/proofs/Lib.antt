pub mod PairLaws
pub mod TimeLaws
