pub mod Bounds
pub mod Masks
pub mod Rows
pub mod Substitute
pub mod TwosComplement
pub mod Typed
