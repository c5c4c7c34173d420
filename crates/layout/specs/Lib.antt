-- The modules of the definitions. Assumes nothing.
pub mod Layout
pub mod Faults
pub mod Answers
pub mod Parts
pub mod Said
pub mod Examples
