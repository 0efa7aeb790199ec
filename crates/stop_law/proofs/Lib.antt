pub mod Stuck
pub mod Ports
pub mod Queues
pub mod Counts
pub mod Cores
pub mod Others
