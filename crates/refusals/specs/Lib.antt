pub mod Numbers
pub mod First
pub mod Texts
pub mod Checks
