pub mod Digits
pub mod Core
pub mod Shape
pub mod Memory
