pub mod Naming
pub mod Tokens
pub mod Reading
pub mod Lines
pub mod Answers
pub mod KeptWord
pub mod Within
pub mod Refused
