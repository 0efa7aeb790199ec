pub mod SameImage
pub mod SameDescription
pub use Rattle.tie_front.proofs as tie_front_proofs
