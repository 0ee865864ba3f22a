pub mod Quarters
pub mod Earned
pub mod Awarding
