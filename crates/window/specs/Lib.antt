-- The modules of the definitions. Assumes nothing.
pub mod Splitting
pub mod Determined
