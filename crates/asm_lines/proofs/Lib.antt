mod DigitSteps
mod Scanning
pub mod Single
mod Turns
mod Words
