pub mod Lists
mod Moved
