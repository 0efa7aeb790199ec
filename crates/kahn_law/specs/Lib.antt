pub mod Worker
pub mod Network
pub mod Causal
pub mod Finish
pub mod Clock
pub mod Laws
pub mod Machines
