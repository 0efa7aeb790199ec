pub mod Ends
pub mod Chunks
pub mod Items
pub mod HasWords
pub mod Printed
pub use Rattle.xt_dis.specs as xt_dis
