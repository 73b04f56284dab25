pub mod Ends
pub mod Serving
pub mod Task
pub mod Measuring
pub mod Racing
pub mod Picturing
pub use Rattle.cilk_program_runs.specs.Exploring
