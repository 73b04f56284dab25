pub mod Limits
pub mod ClassNumbers
pub mod StatementViews
pub mod Chains
pub mod Starts
pub mod Views
pub mod FaultPlace
pub mod Text
pub use Rattle.cilk_parse_grammar.specs.Grammar
pub use Rattle.cilk_parse_grammar.specs.Spelling
pub use Rattle.cilk_parse_grammar.specs.ReadsAs
pub use Rattle.cilk_lex.specs.Reading
pub use Rattle.cilk_lex.specs.Sight
pub use Rattle.cilk_parse_grammar.specs as grammar
pub use Rattle.cilk_parse_grammar.specs.Fault
