pub mod Scope
pub mod Shown
pub mod Acts
pub mod Firsts
pub mod Pass
pub mod Outer
pub mod BodyTables
pub mod Front
pub mod Tables
pub use Rattle.cilk_load_nodes.specs as nodes
pub use Rattle.cilk_load_nodes.specs.labelled
pub use Rattle.cilk_load_nodes.specs.model
pub use Rattle.cilk_load_nodes.specs.scopes
pub use Rattle.cilk_tree_syntax.specs as syntax
pub use Rattle.cilk_load_nodes.specs.scopes.lexeme
