-- What holds of words, beside the proofs of the functions: the laws, the members, that each contract says all of its result, and the list of
-- what is proved. Assumes nothing.
pub mod Laws
pub mod Members
pub mod Unique
pub mod Promises
