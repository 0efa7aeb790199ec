pub mod Printing
pub mod Files
pub mod Meaning
pub mod Delivery
pub mod Answers
