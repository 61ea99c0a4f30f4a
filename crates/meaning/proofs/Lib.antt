-- Sums and counts, states that agree, what a step keeps, reads and changes, orders by ticket.
pub mod Sums
pub mod Counts
pub mod AgreeOn
pub mod SubtreeLaws
pub mod IsState
pub mod Commute
pub mod ByTicket
pub mod IsRecorded
-- Lines and their output, and lines taken.
mod FirstLine
pub mod OutputLemmas
pub mod TakesLines
-- For runs of servers.
pub mod SendingAgain
mod StripeSizes
-- For the serial server: the keys of ordered maps, and the tests by kind.
pub mod Keys
pub mod ReadStep
-- The files of a volume as a number.
pub mod FileNumber
pub mod FileBits
-- For this crate.
mod Effects
mod HealingStep
mod Examples
