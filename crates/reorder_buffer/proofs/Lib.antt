-- The lemmas of this crate: lines in the order of their tickets, and the reorder buffer that holds them.
mod Order
mod Lines
