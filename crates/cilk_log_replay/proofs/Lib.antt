pub mod Again
pub mod Naming
pub mod Found
pub mod Onward
pub mod Ranges
pub mod Restores
mod Rows
pub mod Tracks
pub mod Ways
pub mod Whole
pub use Rattle.cilk_machine.proofs as machine_laws
