-- The modules of the definitions. Assumes nothing.
pub mod Measured
pub mod Parts
pub mod Examples
