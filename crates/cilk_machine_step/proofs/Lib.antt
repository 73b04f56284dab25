pub mod Numbers
pub mod Renamed
pub mod Seen
pub mod Acts
pub mod Shown
pub mod Holding
pub mod Waits
pub mod Ways
pub mod Left
pub mod Fits
pub mod Peeks
pub mod Owning
pub use Rattle.cilk_load.proofs as load_laws
