-- Definitions of a log: its front, its calls and their costs, and what a device recovers to after a crash.
pub mod HalfContent
pub mod Recovery
pub mod Changes
pub mod Log
pub mod Halves
pub mod Crash
pub mod ChangeRecords
pub mod Calls
pub mod Beyond
