pub mod Calls
pub mod Fresh
pub mod Bureaus
pub mod Runs
pub mod Texts
