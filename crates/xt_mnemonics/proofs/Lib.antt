mod Fitting
mod NameLaws
mod Table
pub mod Upper
