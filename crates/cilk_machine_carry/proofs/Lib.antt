pub mod Undone
pub mod Released
pub mod Closed
pub mod Arms
pub mod Awake
pub mod Followed
pub mod Takes
pub mod Agreements
pub mod Readies
pub mod Whole
pub use Rattle.cilk_machine_plan.proofs as plans_laws
pub use Rattle.cilk_machine_plan.proofs.agree_laws
pub use Rattle.cilk_machine_plan.proofs.effects_laws
pub use Rattle.cilk_machine_plan.proofs.frame_laws
pub use Rattle.cilk_machine_plan.proofs.nodes_laws
pub use Rattle.cilk_machine_plan.proofs.runs_laws
pub use Rattle.cilk_machine_plan.proofs.sched_laws
pub use Rattle.cilk_machine_plan.proofs.spawn_laws
