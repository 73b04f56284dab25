pub mod Histories
pub mod Glimpses
pub use Rattle.cilk_log.specs as log
pub use Rattle.cilk_machine.specs as machine
