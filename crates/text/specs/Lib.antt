-- The modules of the definitions. Assumes nothing.
pub mod Text
pub mod Room
pub mod Parts
