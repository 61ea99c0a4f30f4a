-- Definitions of a reorder buffer of lines that were read and not retired yet.
pub mod ReorderBuffer
pub mod View
