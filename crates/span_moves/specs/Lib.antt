pub mod Spans
pub mod Ready
pub mod Moves
