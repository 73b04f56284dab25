pub mod FormFinds
pub mod Room
pub mod Said
pub mod NameFinds
pub mod Table
pub mod Left
pub mod Signatures
pub use Rattle.cilk_check_scopes.specs as scopes
pub use Rattle.cilk_check_scopes.specs.lexeme
pub use Rattle.cilk_check_scopes.specs.syntax
