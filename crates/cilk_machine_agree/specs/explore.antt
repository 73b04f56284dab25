-- What it is to look at all that a program may do: when two standings have one future, how a run ends, and what a search for the endings has found.
pub mod Alike
pub mod AlikeLaws
pub mod Ending
pub mod Same
pub mod Names
pub mod Search
pub mod Endless
pub mod Laws
pub mod OrMore
pub mod Rows
