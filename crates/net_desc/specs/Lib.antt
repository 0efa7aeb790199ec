pub mod Ends
pub mod Workers
pub mod Wiring
pub mod Items
pub mod Alone
pub use Rattle.net_toml.specs as net_toml
pub use Rattle.net_toml.specs.net_parts as net_parts
