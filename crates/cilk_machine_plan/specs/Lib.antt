pub mod Words
pub mod PartWords
pub mod Carried
pub mod Ready
pub mod Spends
pub mod StepInput
pub mod Made
pub mod Plans
pub use Rattle.cilk_machine_agree.specs as agree
pub use Rattle.cilk_eval.specs as eval
pub use Rattle.cilk_machine_agree.specs.frame
pub use Rattle.cilk_machine_agree.specs.labelled
pub use Rattle.cilk_machine_agree.specs.model
pub use Rattle.cilk_machine_agree.specs.nodes
pub use Rattle.cilk_machine_agree.specs.runs
pub use Rattle.cilk_machine_agree.specs.sched
pub use Rattle.cilk_machine_agree.specs.spawn
pub use Rattle.cilk_machine_agree.specs.syntax
pub use Rattle.cilk_eval.specs.effects
pub use Rattle.cilk_machine_agree.specs.scopes
