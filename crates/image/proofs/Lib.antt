-- The lemmas of this crate: the pieces of an image, their sizes and places, what they spell, and how they are read.
pub mod Measures
pub mod PieceNumbers
pub mod PieceIn
pub mod JoinedPieces
pub mod ReadImage
mod JoinedEntries
pub mod EntryOrder
pub mod EntryCounts
pub mod DecodedBy
mod DecodedBefore
mod SamePieces
pub mod GoodPieces
pub mod Untouched
mod Examples
