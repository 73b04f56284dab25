pub mod Sight
pub mod Front
pub mod Reading
pub mod Marks
pub use Rattle.cilk_lex_tokens.specs as lexeme
