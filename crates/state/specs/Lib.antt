-- The modules of the definitions. Assumes nothing.
pub mod State
pub mod SetUp
pub mod Parts
