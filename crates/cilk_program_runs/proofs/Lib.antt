pub mod NotRead
mod Stored
pub mod Ran
mod Debugged
mod Explored
mod Among
pub use Rattle.cilk_program_tapes.proofs.Said
pub use Rattle.cilk_program_tapes.proofs.Told
pub use Rattle.cilk_program_tapes.proofs.Whole
pub use Rattle.cilk_program_tapes.proofs.commands_laws
