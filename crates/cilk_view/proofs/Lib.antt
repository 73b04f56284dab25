pub mod Lists
pub mod Links
pub mod Firsts
pub mod Finds
pub mod Bodies
pub mod Told
pub mod Orders
pub mod Trees
pub mod TreeLines
pub mod Ups
pub mod Entries
pub mod Rising
pub mod Ahead
pub mod Kins
pub mod Tellings
mod Portions
pub use Rattle.cilk_load.proofs.Fronts
pub use Rattle.cilk_machine_agree.proofs.explore as explore_laws
pub use Rattle.cilk_machine_agree.proofs.runs_laws
