pub mod Writing
pub mod CommandSteps
pub mod Comes
pub mod Wherever
