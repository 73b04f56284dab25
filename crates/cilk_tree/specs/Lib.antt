pub use Rattle.cilk_tree_syntax.specs as syntax
pub use Rattle.cilk_tree_syntax.specs.lexeme
