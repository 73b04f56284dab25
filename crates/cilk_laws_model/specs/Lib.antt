pub mod Family
pub mod Hands
pub mod Loops
pub mod Locks
pub mod Laws
pub mod FateLaws
pub mod Told
pub mod Order
pub mod Kept
pub mod Forced
pub mod OneState
pub mod Synched
pub use Rattle.cilk_model.specs as model
pub use Rattle.cilk_model.specs.labelled
pub use Rattle.cilk_model.specs.scopes
pub use Rattle.cilk_model.specs.syntax
