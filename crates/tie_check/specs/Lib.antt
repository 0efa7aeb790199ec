pub mod Checked
pub use Rattle.tie_rules.specs as tie_rules
pub use Rattle.tie_description_law.specs.tie_tree_law as tie_tree_law
pub use Rattle.tie_description_law.specs.tie_describe as tie_describe
