pub mod Grids
pub mod Counts
pub mod Changes
pub mod Told
pub mod Ranges
