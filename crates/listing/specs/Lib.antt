-- The modules of the definitions. Assumes nothing.
pub mod Text
pub mod Run
pub mod Turns
pub mod Parts
pub mod Worked
