pub mod Broken
pub mod Values
pub mod Limits
pub mod Names
pub mod Earlier
pub mod Tables
pub mod Walk
pub use Rattle.net_parts.specs as net_parts
