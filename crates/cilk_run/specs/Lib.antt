pub mod Generator
pub mod Drawn
pub mod Drawing
pub mod Tallied
pub mod Tallying
pub mod Histories
pub mod Runs
pub mod Turning
pub use Rattle.cilk_run_locked.specs as locked
pub use Rattle.cilk_run_locked.specs.log
pub use Rattle.cilk_run_locked.specs.log.choices
pub use Rattle.cilk_run_locked.specs.machine
pub use Rattle.cilk_run_locked.specs.machine.labelled
pub use Rattle.cilk_run_locked.specs.machine.model
pub use Rattle.cilk_run_locked.specs.machine.step
pub use Rattle.cilk_run_locked.specs.machine.syntax
