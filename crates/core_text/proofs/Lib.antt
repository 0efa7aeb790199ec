pub mod HexDigits
pub mod Lines
mod Rows
