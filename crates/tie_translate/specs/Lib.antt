pub mod Translation
pub mod Bounds
