pub mod Sizes
pub mod Steps
pub mod Filled
pub mod Fitting
pub mod OneListing
