pub mod Numbers
pub mod Constants
pub mod Formats
pub mod Table
pub mod Reading
pub mod Families
