-- Definitions of a stripe: its blocks, how they are kept, and their entries as bytes.
pub mod Stripe
pub mod Index
pub mod View
pub mod Entries
