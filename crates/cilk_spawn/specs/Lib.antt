pub mod Nodes
pub mod Alike
pub mod Family
pub mod Records
pub mod Remains
pub mod Revived
pub mod Dropped
pub mod Undone
pub mod Copied
pub mod Cut
pub mod Living
pub mod LivingRecords
pub use Rattle.cilk_frame.specs as frame
pub use Rattle.cilk_frame.specs.labelled
pub use Rattle.cilk_frame.specs.model
pub use Rattle.cilk_frame.specs.nodes
pub use Rattle.cilk_frame.specs.syntax
