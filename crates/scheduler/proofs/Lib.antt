-- ---- for the crates above: the calls of a core as events, which devices are refused, each step of a machine as an event, and what a
-- crash leaves of a run
pub mod IsCallEvent
pub mod Refusals
pub mod MachineSteps
pub mod HasRun
pub mod FailStop
-- ---- this crate's own
mod IsJobOf
mod HoldsJobs
mod SeesSame
mod Examples
mod Splits
mod Chains
mod Trees
mod NextEligible
mod HeldAny
mod UnloggedChanges
mod ArrivalKeepsCore
mod GrantKeepsCore
mod ReturnKeepsCore
mod AnswerKeepsCore
mod AffinityNumbers
mod SlotEntries
mod JournalKeepsCore
mod LogKeepsCore
mod CheckpointKeepsCore
mod AnswerCall
mod ArriveCall
mod IsPlaced
mod GrantCall
mod ReturnCall
mod HasLogged
pub mod Lists
mod RecordedIn
mod LogCall
mod IsJustOpened
mod DeviceIncarnations
mod IsEndOfRun
