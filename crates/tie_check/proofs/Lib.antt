mod Fit
pub use Rattle.tie_rules.proofs as tie_rules_proofs
