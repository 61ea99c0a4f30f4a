-- ---- for the crates above: which message goes next, by tickets
pub mod ByTicket
-- ---- this crate's own
mod IsNext
mod SlotCounts
mod Examples
mod TicketOrder
mod Chains
mod HeldMessages
mod AffinitiesAbove
mod ConflictsByNumber
mod Finds
mod Earliest
mod Ready
mod Chunks
mod QueueCalls
