pub mod Money
pub mod MoneyLaws
