pub mod Known
pub mod Room
pub mod Before
pub mod Heads
pub mod Fits
pub mod Effects
pub mod Slotted
