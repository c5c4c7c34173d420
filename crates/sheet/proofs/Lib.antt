-- The modules of the proofs. Assumes nothing.
pub mod Order
pub mod Halves
pub mod HighestLoss
pub mod Refusals
pub mod Loops
pub mod Examples
pub mod Promises
pub mod Unique
