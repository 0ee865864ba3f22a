pub mod Performed
pub mod Texts
pub mod Reading
pub mod Faults
pub mod Words
pub mod Lines
