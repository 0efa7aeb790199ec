pub mod WordLemmas
pub mod NameSteps
mod Rows
