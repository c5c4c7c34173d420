-- The modules of the definitions. Assumes nothing.
pub mod Format
pub mod Reading
pub mod Parts
pub mod Writing
pub mod Faults
