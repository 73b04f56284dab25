pub mod Tokens
pub mod Loops
pub mod NameClasses
pub mod Starting
pub mod Joined
pub mod NamesButMain
pub mod Programs
pub mod FaultPlaces
pub use Rattle.cilk_lex.proofs as lex_laws
