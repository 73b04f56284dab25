-- The labelled program: its actions with their numbers and lines, what names mean, and the values of expressions (C 1990, 6.3).
pub mod Arithmetic
pub mod Term
pub mod Value
pub mod Labelled
pub mod Items
pub mod Count
pub mod Lines
pub mod Names
pub mod Label
pub mod Bodies
pub mod Rows
