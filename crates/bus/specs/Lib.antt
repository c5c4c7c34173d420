-- The modules of the definitions. Assumes nothing.
pub mod Types
pub mod Coded
pub mod Stretch
pub mod Parts
