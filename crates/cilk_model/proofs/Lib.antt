pub mod Runs
pub mod Printing
pub use Rattle.cilk_check_scopes.proofs as scopes_laws
pub use Rattle.cilk_check_scopes.proofs.syntax_laws
