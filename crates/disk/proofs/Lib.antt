-- The lemmas of this crate: bytes of a device, and what writes, syncs and crashes leave of them, call by call.
pub mod Bytes
pub mod Calls
mod TornSoFar
pub mod IsTornFrom
pub mod IsSynced
pub mod CrashImagesAre
mod OneWrite
pub mod SameOutside
pub mod Overlays
mod Examples
mod Spans
