pub mod Numbers
pub mod Requests
pub mod Announcing
pub mod Texts
