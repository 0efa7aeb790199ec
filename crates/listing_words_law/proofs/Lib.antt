pub mod Fronts
pub mod Scanned
pub mod Parsed
pub mod Named
pub mod Texts
pub mod Readable
pub mod Lines
