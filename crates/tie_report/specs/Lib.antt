pub mod Standing
pub mod Report
pub use Rattle.net_ref.specs as net_ref
pub use Rattle.net_ref.specs.net_parts as net_parts
pub use Rattle.net_ref.specs.xt_exec as xt_exec
