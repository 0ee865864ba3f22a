pub mod Once
pub mod Firsts
