pub mod Seats
pub mod Count
pub mod PathNames
pub mod Back
pub mod Newlines
pub use Rattle.cilk_frame.proofs as frame_laws
pub use Rattle.cilk_frame.proofs.nodes_laws
