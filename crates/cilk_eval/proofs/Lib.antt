pub mod Rounding
pub mod Results
pub mod KnownLaws
pub mod effects_laws
pub use Rattle.cilk_frame.proofs as frame_laws
pub use Rattle.cilk_frame.proofs.scopes_laws
pub use Rattle.cilk_frame.proofs.nodes_laws.syntax_laws
