-- ---- for the crates above: what was sent, what a device holds of it, and what a restart goes on from
pub mod HoldsSent
pub mod RecoversWritten
pub mod SerialServer
pub mod KeepsPromise
-- ---- this crate's own
mod MaySend
mod RunsBetween
mod TimelyCheckpoints
mod Tickets
mod Segments
mod Collected
mod DispatchesTo
mod AnsweredLine
mod Start
mod TakesLine
mod CheckpointSteps
mod Places
mod TakesLines
mod TicketOrder
pub mod HaveSerialReplies
mod MessageCounts
mod Outstanding
mod Slots
mod EndsWith
mod SentLines
mod IsReadEnd
mod NoneUnanswered
mod TornSend
mod KeepsSent
mod ServingSince
mod SessionInvariant
mod StepsAhead
mod Arrivals
mod TurnsLeft
mod InBounds
mod IsAtRest
mod ServePromise
mod SessionEnds
mod Newlines
mod SendsNoReply
mod SortedLogs
mod Examples
mod Restarts
