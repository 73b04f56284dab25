pub mod Flat
pub mod SlotLaws
pub mod Values
pub mod Puts
pub mod Tops
pub mod Starts
pub mod Steps
pub mod Bottoms
pub use Rattle.cilk_load_nodes.proofs as nodes_laws
pub use Rattle.cilk_load_nodes.proofs.scopes_laws
