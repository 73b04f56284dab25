pub mod Outside
pub mod Alike
pub mod Agrees
pub mod Marks
pub mod Laws
pub mod Locks
pub mod Actions
pub mod Asked
pub mod Between
pub mod Fated
pub mod FateLaws
pub mod explore
pub mod Matching
pub use Rattle.cilk_laws_model.specs as runs
pub use Rattle.cilk_laws_model.specs.labelled
pub use Rattle.cilk_laws_model.specs.scopes
pub use Rattle.cilk_laws_model.specs.syntax
pub use Rattle.cilk_laws_model.specs.model
pub use Rattle.cilk_sched.specs as sched
pub use Rattle.cilk_sched.specs.frame
pub use Rattle.cilk_sched.specs.nodes
pub use Rattle.cilk_spawn.specs as spawn
