pub mod Memory
pub mod Shapes
pub mod CoreLemmas
pub mod Kept
pub mod StartLemmas
pub mod Determined
