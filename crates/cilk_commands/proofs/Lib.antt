pub mod Explained
pub mod WholeText
pub mod Statuses
mod WholeRecord
pub use Rattle.cilk_load.proofs.Fronts
