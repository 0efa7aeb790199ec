pub mod Declarations
pub mod Operations
pub mod Formats
pub mod Described
pub mod Answers
pub mod Scope
pub mod Results
pub use Rattle.tie_rules.specs as tie_rules
pub use Rattle.tie_tree_law.specs as tie_tree_law
