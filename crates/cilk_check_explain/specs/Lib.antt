pub mod Lines
pub mod Said
pub use Rattle.cilk_lex.specs as lex
pub use Rattle.cilk_parse.specs as parse
