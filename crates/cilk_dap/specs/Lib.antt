pub mod Moving
pub use Rattle.cilk_dap_messages.specs as messages
pub use Rattle.cilk_debug.specs as debug
