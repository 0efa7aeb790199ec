pub mod Words
pub mod View
pub mod Kinds
pub mod Range
pub mod Action
