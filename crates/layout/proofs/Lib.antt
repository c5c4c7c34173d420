-- The modules of the shared laws and theorems. Assumes nothing.
pub mod InLine
pub mod Inserting
pub mod Faulty
pub mod Order
pub mod Steps
pub mod Repeating
pub mod Examples
pub mod Good
pub mod Ordered
pub mod Wrong
pub mod Turns
pub mod Unique
pub mod Promises
