pub mod Sums
pub mod Volumes
pub mod Laws
