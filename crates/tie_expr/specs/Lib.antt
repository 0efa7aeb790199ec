pub mod Word
pub mod Operators
pub mod Meaning
pub mod Size
pub mod Tree
pub mod Substitute
