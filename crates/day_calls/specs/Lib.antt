pub mod Calls
pub mod Answers
pub mod Days
pub mod Texts
