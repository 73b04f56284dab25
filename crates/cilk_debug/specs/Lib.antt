pub mod Debugging
pub mod Ending
pub mod Faults
pub mod Moves
pub mod Obeying
pub mod Replies
pub mod Rows
pub mod Seeing
pub mod Seeking
pub mod Session
pub mod Working
pub use Rattle.cilk_debug_console.specs as console
pub use Rattle.cilk_debug_console.specs.log
pub use Rattle.cilk_log_replay.specs as replay
pub use Rattle.cilk_log_replay.specs.machine
