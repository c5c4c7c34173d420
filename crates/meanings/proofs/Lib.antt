-- The modules of the shared laws and theorems. Assumes nothing.
pub mod Words
pub mod Places
pub mod Telling
pub mod Examples
pub mod Unique
pub mod Promises
