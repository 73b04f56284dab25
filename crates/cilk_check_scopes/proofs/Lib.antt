pub mod Elements
pub mod Held
pub mod Firsts
pub mod Steps
pub mod Splits
pub mod Told
pub mod Mains
pub use Rattle.cilk_tree_syntax.proofs as syntax_laws
