pub mod Lists
pub mod NameLemmas
pub mod FormatLemmas
pub mod SlotLemmas
mod Rows
