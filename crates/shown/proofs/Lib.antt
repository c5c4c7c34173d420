-- The modules of the shared laws and theorems. Assumes nothing.
pub mod Storing
pub mod FieldsRead
pub mod Prefixes
pub mod LinesRead
pub mod RoundTrip
pub mod Turns
pub mod Examples
pub mod Unique
pub mod Promises
