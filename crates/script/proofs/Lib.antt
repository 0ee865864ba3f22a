pub mod Numbers
pub mod Taking
