pub mod Days
pub mod Lawful
pub mod Runs
