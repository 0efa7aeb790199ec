pub mod Meant
pub mod Statements
pub mod Round
