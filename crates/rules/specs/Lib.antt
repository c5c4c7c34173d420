-- The modules of the definitions. Assumes nothing.
pub mod Lists
pub mod Bus
pub mod Refusals
pub mod SetUp
pub mod Standing
pub mod Admission
pub mod Begin
pub mod Probe
pub mod Step
pub mod Closing
pub mod Conditions
pub mod Engine
pub mod Demands
pub mod Examples
pub mod WrongEngines
