pub mod BoundLemmas
pub mod HeldLemmas
pub mod SlotLemmas
