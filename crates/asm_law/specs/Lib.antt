pub use Rattle.tie_front.specs as tie_front
pub use Rattle.xt_asm.specs as xt_asm
