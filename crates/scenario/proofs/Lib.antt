-- The modules of the shared laws and theorems. Assumes nothing.
pub mod Numbers
pub mod RecordLaws
pub mod Refusals
pub mod Unique
pub mod ReadingLaws
pub mod Arrivals
pub mod WrittenRecords
pub mod Written
pub mod Sound
pub mod Promises
pub mod Faults
