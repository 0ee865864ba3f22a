pub mod Minutes
pub mod Announcing
pub mod Opening
pub mod Questions
pub mod Gating
