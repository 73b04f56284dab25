pub mod Choices
pub mod Stretches
pub mod Naming
pub mod Text
pub mod Reading
pub mod Words
pub mod Rows
pub use Rattle.cilk_sched.specs as choices
pub use Rattle.cilk_sched.specs.syntax
