pub mod Texts
pub mod Loaded
pub mod Steps
pub mod Told
pub mod Pieces
pub use Rattle.tie_files.specs as tie_files
pub use Rattle.net_desc.specs as net_desc
pub use Rattle.net_desc.specs.net_toml as net_toml
pub use Rattle.net_desc.specs.net_parts as net_parts
pub use Rattle.tie_files.specs.tie_front as tie_front
pub use Rattle.tie_files.specs.tie_check as tie_check
