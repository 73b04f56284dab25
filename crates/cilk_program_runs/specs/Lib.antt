pub mod AsAsked
pub mod Running
pub mod Tallying
pub mod OnTapes
pub mod Debugging
pub mod Outcomes
pub mod Exploring
pub mod Unexplored
pub use Rattle.cilk_program_tapes.specs as tapes
pub use Rattle.cilk_program_tapes.specs.GivingUp
pub use Rattle.cilk_program_tapes.specs.Replaying
pub use Rattle.cilk_program_tapes.specs.Saying
pub use Rattle.cilk_program_tapes.specs.Taped
pub use Rattle.cilk_program_tapes.specs.Telling
pub use Rattle.cilk_program_tapes.specs.commands
