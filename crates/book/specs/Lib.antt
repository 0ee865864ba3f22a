pub mod Admissions
pub mod Numbers
pub mod Grid
pub mod Positions
pub mod Calls
pub mod Texts
pub mod Rest
