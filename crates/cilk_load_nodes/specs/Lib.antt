pub mod Reads
pub mod Coding
pub mod View
pub mod Size
pub mod Falls
pub mod Areas
pub mod Slots
pub mod Actions
pub mod Table
pub mod Bodies
pub mod Plain
pub mod Laws
pub mod Rows
pub use Rattle.cilk_model.specs as model
pub use Rattle.cilk_model.specs.labelled
pub use Rattle.cilk_model.specs.scopes
pub use Rattle.cilk_model.specs.syntax
