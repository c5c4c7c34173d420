-- The modules of the shared laws and theorems. Assumes nothing.
pub mod Waits
pub mod Finishing
pub mod Counted
pub mod Examples
pub mod Unique
pub mod Promises
