mod ChoiceLines
mod ChoiceStands
pub mod Said
pub mod Whole
pub mod Replayed
pub mod Told
pub use Rattle.cilk_commands.proofs as commands_laws
