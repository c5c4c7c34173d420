-- The modules of the definitions. Assumes nothing.
pub mod Losses
pub mod Sheet
pub mod Words
pub mod Parts
pub mod Examples
