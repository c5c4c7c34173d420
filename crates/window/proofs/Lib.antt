-- What holds of windows, beside the proofs of the functions: number laws, the facts, that each contract says all of its result, and the list
-- of what is proved. Assumes nothing.
pub mod Powers
pub mod Facts
pub mod Unique
pub mod Promises
