pub mod Fault
pub mod First
pub mod Within
pub mod Scopes
pub mod Parts
pub mod Declarations
pub mod Cells
pub mod Format
pub mod Forms
pub mod Mains
pub mod WordFaults
pub mod Reserved
pub mod Uses
pub mod NameFaults
pub mod WellFormed
pub use Rattle.cilk_tree_syntax.specs as syntax
pub use Rattle.cilk_tree_syntax.specs.lexeme
