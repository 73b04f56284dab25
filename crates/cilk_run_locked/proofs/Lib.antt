pub mod LedOn
pub mod Crosses
pub use Rattle.cilk_machine.proofs as machine_laws
