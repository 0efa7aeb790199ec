mod Rows
pub mod NumberLemmas
pub mod ConstantLemmas
pub mod Cases
pub mod Fields
pub mod Rst0Lemmas
pub mod Rst1Lemmas
pub mod Rst3Lemmas
pub mod QrstLemmas
pub mod LsaiLemmas
pub mod JumpLemmas
pub mod BranchLemmas
pub mod SoundLemmas
pub mod TableLemmas
