-- The lemmas of this crate: the first line of some bytes, texts without newlines, and worked examples.
pub mod FirstLines
pub mod Newlines
mod Examples
