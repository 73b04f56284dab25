pub mod Framing
pub mod Naming
