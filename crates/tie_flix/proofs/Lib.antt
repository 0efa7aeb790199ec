pub mod Decided
pub mod FieldLemmas
pub mod SlotLemmas
pub mod Fetched
pub mod Refetched
pub mod WordBounds
pub mod Firsts
