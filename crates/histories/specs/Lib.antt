-- Definitions of legal runs: core states, events, what may come when, and incarnations that end with a crash.
pub mod CoreState
pub mod Eligible
pub mod Events
pub mod MachineState
pub mod Runs
pub mod Crash
pub mod Failures
pub mod IsSoundCoreState
pub mod IsSerialHistory
pub mod Incarnations
pub mod Progress
