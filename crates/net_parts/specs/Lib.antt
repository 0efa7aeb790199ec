pub mod Ends
pub mod Network
