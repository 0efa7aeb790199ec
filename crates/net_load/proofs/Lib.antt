pub mod Seen
pub mod Files
pub mod Walk
pub mod CoreSteps
pub mod SourceSteps
pub mod Whole
pub use Rattle.tie_files.proofs.tie_front_proofs as tie_front_proofs
pub use Rattle.tie_files.proofs as tie_files_proofs
