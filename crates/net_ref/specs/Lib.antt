pub mod Place
pub mod Processor
pub mod Workers
pub mod Reference
pub mod Ports
pub mod Shown
pub mod First
pub use Rattle.net_parts.specs as net_parts
pub use Rattle.xt_exec.specs as xt_exec
