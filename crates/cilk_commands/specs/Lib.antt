pub mod Held
pub mod FaultPlace
pub mod Program
pub mod Loading
pub mod Printing
pub mod Checking
pub mod Status
pub mod Telling
pub use Rattle.cilk_load.specs.scopes.WellFormed as CheckFaults
pub use Rattle.cilk_load.specs.syntax
pub use Rattle.cilk_load.specs.syntax.Tree
pub use Rattle.cilk_check_explain.specs.Lines
pub use Rattle.cilk_check_explain.specs.lex
pub use Rattle.cilk_load.specs.Front
pub use Rattle.cilk_load.specs.syntax.ProgramText
pub use Rattle.cilk_load.specs.labelled
pub use Rattle.cilk_load.specs.labelled.Count
pub use Rattle.cilk_check_explain.specs.parse.Text
