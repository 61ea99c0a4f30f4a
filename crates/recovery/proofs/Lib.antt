-- ---- for the layer above: why a device is refused and what it recovers to otherwise (Refusing, Behind), what a read leaves
-- ---- (Replays), whose header a device has (OneGeometry), and that one which recovers to a state isn't refused (NotRefused)
pub mod Refusals
pub mod NamedHolds
pub mod Replays
pub mod OneGeometry
pub mod NotRefused
-- ---- for this crate alone
mod CrashesChangeOnly
mod Unformatted
mod EmptyImage
mod LaidOut
mod FormatByte
mod Examples
mod AfterRecord
mod Heads
mod PieceWalk
mod ReadingCalls
