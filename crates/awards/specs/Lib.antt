pub mod Blocks
pub mod Accounts
pub mod Sheets
pub mod Awards
