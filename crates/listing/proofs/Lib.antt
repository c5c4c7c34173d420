-- The modules of the shared laws and theorems. Assumes nothing.
pub mod Gathered
pub mod Played
pub mod TurnLaws
pub mod Handed
pub mod NeverRefused
pub mod Worked
pub mod Unique
pub mod Promises
