-- The lemmas of this crate: the rule of the bench at each step, and the dispatcher's seat with its slots.
mod Examples
mod Rows
mod KeepsRule
mod SeatOrder
mod OfferAndCollect
mod Places
