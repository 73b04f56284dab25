pub mod Lines
pub mod Escapes
pub mod Sizes
pub mod Written
pub mod BareText
pub use Rattle.cilk_tree_syntax.proofs as syntax_laws
