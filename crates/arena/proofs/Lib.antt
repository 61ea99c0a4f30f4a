-- ---- for the crates above: how often a slot is in lists, the partition of the slots after each call, and
-- what a caller needs of chains and of the partition
pub mod Counts
pub mod IsPartitioned
pub mod ArenaLemmas
-- ---- this crate's own: that the links are those of lists, and that the arena keeps its view by them
mod Ways
mod Unlinked
mod Alone
mod Inserted
mod Behind
mod ListsAtStart
mod Stored
mod StoredUnlinking
mod StoredInserting
mod StoredAppending
mod StoredPrepending
mod KeepsView
