-- Definitions of the run queue: which message is dispatched next, the order of those that wait, and how queues and ready entries keep it.
pub mod RunQueue
pub mod Slots
pub mod Order
pub mod Queues
pub mod HeldMessages
pub mod RelatedNumbers
pub mod ReadyTable
pub mod View
pub mod Invariant
