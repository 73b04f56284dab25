pub mod DrawFaults
pub use Rattle.cilk_log_replay.specs as replay
