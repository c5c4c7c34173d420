-- The modules of the shared laws and theorems. Assumes nothing.
pub mod Decimals
pub mod Stores
pub mod Unique
pub mod Promises
