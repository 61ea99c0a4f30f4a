-- ---- for the crates above: what comes back from a run fits where it was lent, and how a tree agrees with the serial server's state
-- while parcels are out
pub mod RunFits
pub mod TreeHolds
pub mod LendsAndRestores
pub mod SerialRuns
-- ---- this crate's own
mod ChildRows
mod Whole
mod Slots
mod TakesAndPuts
mod VolumeWritten
mod Shows
mod TreeState
mod LendRunRestore
mod NewTree
mod Examples
mod OneVolume
mod StripeCounts
mod StripeRows
mod StripeTotals
mod Totals
mod VolumeRows
mod PieceBytes
mod VolumePieces
mod StripePieces
mod ReadPieces
mod PiecesTaken
