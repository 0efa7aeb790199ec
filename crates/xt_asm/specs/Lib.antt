pub mod Bytes
pub mod Assembly
pub mod Known
pub mod Spelled
pub use Rattle.asm_rules.specs as asm_rules
