pub mod CommandLine
pub mod Described
pub mod Refusing
pub mod Source
pub mod Beside
