pub mod Heads
pub mod Holds
pub mod Acts
pub mod Births
pub mod Gifts
pub mod Deliveries
pub mod Planned
mod Callees
pub use Rattle.cilk_machine_agree.proofs as agree_laws
pub use Rattle.cilk_machine_agree.proofs.frame_laws
pub use Rattle.cilk_machine_agree.proofs.nodes_laws
pub use Rattle.cilk_machine_agree.proofs.runs_laws
pub use Rattle.cilk_machine_agree.proofs.sched_laws
pub use Rattle.cilk_machine_agree.proofs.spawn_laws
pub use Rattle.cilk_eval.proofs.effects_laws
pub use Rattle.cilk_eval.proofs as eval_laws
