pub mod Command
pub mod Words
pub mod Asking
pub mod Input
pub mod Taking
pub mod OneByOne
pub mod Parts
pub mod Rows
pub use Rattle.cilk_log.specs as log
pub use Rattle.cilk_log.specs.syntax
pub use Rattle.cilk_log.specs.choices
pub use Rattle.cilk_log.specs.choices.model
