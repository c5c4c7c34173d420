-- The modules of the definitions. Assumes nothing.
pub mod Page
pub mod Examples
