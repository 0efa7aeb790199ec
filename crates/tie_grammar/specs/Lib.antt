pub mod Spelling
pub mod Grammar
pub mod Reading
pub mod Exprs
pub mod Items
pub mod Decls
