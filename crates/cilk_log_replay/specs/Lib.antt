pub mod Breaks
pub mod Going
pub mod Playing
pub mod ReplayFaults
pub mod Tape
pub mod Tracks
pub use Rattle.cilk_log.specs as log
pub use Rattle.cilk_machine.specs as machine
