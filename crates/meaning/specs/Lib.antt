-- Definitions of the serial server: its states, what each message means there, and the laws of steps.
pub mod State
pub mod Step
pub mod Refusals
pub mod Subtrees
pub mod Facts
pub mod TicketOrder
pub mod Commute
pub mod Output
pub mod ClosedPart
pub mod SendingAgain
pub mod Removals
pub mod Progress
pub mod KeyOrders
