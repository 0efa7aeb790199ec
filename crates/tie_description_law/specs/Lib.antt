pub mod Fits
pub use Rattle.tie_describe.specs.tie_tree_law as tie_tree_law
pub use Rattle.tie_describe.specs as tie_describe
