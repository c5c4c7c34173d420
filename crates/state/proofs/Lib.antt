-- The modules of the shared laws and theorems. Assumes nothing.
pub mod Rows
pub mod Places
pub mod Contenders
pub mod Form
pub mod Stands
pub mod Tested
pub mod SettingUp
pub mod StandingParts
pub mod Found
pub mod Promises
pub mod Unique
