-- The modules of the definitions. Assumes nothing.
pub mod Shown
pub mod Parts
pub mod Examples
