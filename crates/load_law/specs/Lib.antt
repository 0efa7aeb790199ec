pub mod Faults
pub mod Kinds
pub use Rattle.net_load.specs as net_load
pub use Rattle.net_load.specs.tie_files as tie_files
pub use Rattle.net_load.specs.net_desc as net_desc
pub use Rattle.net_load.specs.net_toml as net_toml
