-- The lemmas of this crate: the entries of a stripe, their order and their index, and entries as bytes.
mod EntryLemmas
mod IndexLemmas
-- ---- for the crates above
pub mod EntryBytes
pub mod EntryOrder
mod EntriesRead
