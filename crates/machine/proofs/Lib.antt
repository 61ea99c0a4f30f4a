-- The lemmas of this crate: the hands of a machine at its start.
mod EmptyHands
