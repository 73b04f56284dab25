pub mod Carries
pub mod Takers
pub use Rattle.cilk_machine_plan.specs as plans
pub use Rattle.cilk_machine_plan.specs.agree
pub use Rattle.cilk_machine_plan.specs.scopes
pub use Rattle.cilk_machine_plan.specs.effects
pub use Rattle.cilk_machine_plan.specs.eval
pub use Rattle.cilk_machine_plan.specs.frame
pub use Rattle.cilk_machine_plan.specs.labelled
pub use Rattle.cilk_machine_plan.specs.model
pub use Rattle.cilk_machine_plan.specs.nodes
pub use Rattle.cilk_machine_plan.specs.runs
pub use Rattle.cilk_machine_plan.specs.sched
pub use Rattle.cilk_machine_plan.specs.spawn
pub use Rattle.cilk_machine_plan.specs.syntax
