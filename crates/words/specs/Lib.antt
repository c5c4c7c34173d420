-- The modules of the definitions. Assumes nothing.
pub mod Words
pub mod Parts
