-- ---- for the crates above: lemmas on a geometry's numbers, on related paths, on the place of a
-- message, on affinities as intervals of numbers, and on the elements of a list
pub mod Elements
pub mod GeometryLemmas
pub mod Paths
pub mod PlaceLemmas
pub mod Preorder
-- ---- this crate's own
mod Examples
