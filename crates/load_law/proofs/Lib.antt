mod SameQueues
mod SameWiring
mod Results
mod Texts
mod Kits
mod Steps
mod Done
mod ByKind
pub mod Laws
pub use Rattle.net_load.proofs.tie_files_proofs as tie_files_proofs
