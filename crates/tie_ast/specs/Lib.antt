pub mod Answers
pub mod Symbols
pub mod Parsing
