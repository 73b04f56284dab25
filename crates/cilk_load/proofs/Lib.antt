pub mod Shown
pub mod Begins
pub mod Results
pub mod VarLaws
pub mod Scopes
pub mod Parts
pub mod Cells
pub mod Further
pub mod Switches
pub mod TableLaws
pub mod Fronts
pub mod Got
pub mod Found
pub mod Actions
pub mod Starts
pub mod LabelLaws
pub mod Written
pub mod SlotLaws
pub mod Bodies
pub mod Programs
pub mod Made
pub mod Crosses
pub use Rattle.cilk_load_nodes.proofs as nodes_laws
pub use Rattle.cilk_load_nodes.proofs.scopes_laws
pub use Rattle.cilk_tree_syntax.proofs as syntax_laws
pub use Rattle.cilk_tree.proofs as canonical_laws
