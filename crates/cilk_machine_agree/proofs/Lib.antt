pub mod Frames
pub mod Sets
pub mod Change
pub mod Alone
pub mod Acts
pub mod Waits
pub mod Marks
pub mod Births
pub mod Ends
pub mod Fates
pub mod Found
pub mod Wakes
pub mod Sends
pub mod Returns
pub mod Opens
pub mod Locks
pub mod Actions
pub mod Inlets
pub mod Asked
pub mod Between
pub mod Made
pub mod Kept
pub mod One
pub mod explore
mod Sames
mod Matches
pub use Rattle.cilk_laws_model.proofs as runs_laws
pub use Rattle.cilk_sched.proofs as sched_laws
pub use Rattle.cilk_sched.proofs.frame_laws
pub use Rattle.cilk_sched.proofs.nodes_laws
pub use Rattle.cilk_spawn.proofs as spawn_laws
