pub mod Hexadecimal
pub mod Answers
