-- ---- for the crates above: what each event does to the core, and what every core state keeps
pub mod Lists
pub mod AreUnrelated
pub mod Held
pub mod Entries
pub mod Ways
pub mod SerialReplies
pub mod Room
pub mod IsSoundCoreState
pub mod Idle
pub mod Runs
pub mod IsJoined
pub mod Arrivals
pub mod Elements
pub mod Crashes
pub mod Failures
pub mod AnsweredFirst
pub mod InFlight
pub mod FullHands
pub mod Incarnations
pub mod SerialHistories
pub mod CanGoOn
-- ---- this crate's own
mod Doubts
mod NextEligible
mod KeptBack
mod StepsToCome
mod Hands
mod CanStep
mod AllAnswered
mod Examples
