-- The modules of the proofs. Assumes nothing.
pub mod Told
pub mod Examples
pub mod Promises
pub mod Unique
