pub mod Files
pub mod Parts
pub use Rattle.tie_front.specs as tie_front
pub use Rattle.tie_front.specs.tie_check as tie_check
