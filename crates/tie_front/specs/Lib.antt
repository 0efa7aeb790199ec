pub mod Front
pub mod RuleNames
pub use Rattle.tie_check.specs.tie_tree_law as tie_tree_law
pub use Rattle.tie_check.specs as tie_check
pub use Rattle.tie_check.specs.tie_describe as tie_describe
pub use Rattle.tie_check.specs.tie_rules as tie_rules
