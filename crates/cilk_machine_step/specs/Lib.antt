pub mod Reads
pub mod Accesses
pub mod CellWords
pub mod Shown
pub mod Scenes
pub mod Peeks
pub mod Comings
pub mod Private
pub mod Owned
pub use Rattle.cilk_machine_plan.specs as plan
pub use Rattle.cilk_machine_plan.specs.eval
pub use Rattle.cilk_load.specs.labelled
