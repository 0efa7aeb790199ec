pub mod Steps
pub mod Turns
pub mod Clamp
pub mod Scan
pub mod ParseLaw
