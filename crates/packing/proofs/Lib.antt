-- The modules of the shared laws and theorems. Assumes nothing.
pub mod Sizes
pub mod Left
pub mod Unique
pub mod Promises
