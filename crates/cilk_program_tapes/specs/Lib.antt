pub mod ChoiceLines
pub mod ChoiceRows
pub mod Meanings
pub mod Saying
pub mod Telling
pub mod GivingUp
pub mod Taped
pub mod Replaying
pub use Rattle.cilk_commands.specs as commands
pub use Rattle.cilk_log_replay.specs as replay
