-- The modules of the shared laws and theorems. Assumes nothing.
pub mod Runs
pub mod Lines
pub mod Spans
pub mod Written
pub mod Comparing
pub mod Numbers
pub mod Figures
pub mod Unique
pub mod Promises
