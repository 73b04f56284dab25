pub mod LogLooking
pub mod Marking
pub mod Linking
pub mod Laws
pub mod Walks
pub mod Logs
pub mod Telling
pub mod Looking
pub mod Links
pub mod Exploring
pub use Rattle.cilk_machine.specs.explore
pub use Rattle.cilk_machine.specs as machine
