pub mod Found
pub mod Needed
pub mod Rest
mod Rows
pub use Rattle.net_ref.proofs as net_ref_proofs
