pub mod Expected
pub mod Operands
pub mod Labels
pub mod Slots
pub mod Rules
pub mod Judge
