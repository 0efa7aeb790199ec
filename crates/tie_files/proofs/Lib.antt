pub mod Steps
pub mod Files
pub use Rattle.tie_front.proofs as tie_front_proofs
