-- The modules of the definitions. Assumes nothing.
pub mod Meanings
pub mod Refused
pub mod Examples
