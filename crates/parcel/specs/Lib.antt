-- Definitions of the tree of parcels: its nodes and levels, lending and restoring, running a message, and pieces.
pub mod Volume
pub mod Shown
pub mod Fits
pub mod Whole
pub mod Nodes
pub mod Tree
pub mod JobRun
pub mod TakesAndPuts
pub mod NewTree
pub mod Lends
pub mod VolumeStep
pub mod Removes
pub mod Totals
pub mod LentJob
pub mod TreeHolds
pub mod Pieces
