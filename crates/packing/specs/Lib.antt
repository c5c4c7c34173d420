-- The modules of the definitions. Assumes nothing.
pub mod Packing
