-- Definitions of a journal: its calls, dirty flags, images and costs, and what it keeps, from its opening on.
pub mod DirtyPieces
pub mod Journal
pub mod Extents
pub mod PointAndCut
pub mod RecoversByArea
pub mod IsSoundJournal
pub mod Buffers
pub mod View
pub mod Opening
pub mod OpeningSteps
pub mod Images
pub mod Costs
