pub mod Firsts
mod Lefts
pub mod Alike
mod Spanned
mod Steps
mod Whole
mod Moving
pub mod Shares
