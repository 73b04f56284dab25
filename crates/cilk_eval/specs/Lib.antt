pub mod Rounding
pub mod Known
pub mod effects
pub use Rattle.cilk_frame.specs as frame
pub use Rattle.cilk_frame.specs.labelled
pub use Rattle.cilk_frame.specs.model
pub use Rattle.cilk_frame.specs.nodes
pub use Rattle.cilk_frame.specs.scopes
pub use Rattle.cilk_frame.specs.syntax
