-- Definitions of a device's header, of recovery and its refusals, of loading and of formatting.
pub mod Header
pub mod Recovery
pub mod Refusals
pub mod Formatting
pub mod OpeningCalls
pub mod NamedHolds
pub mod OpenFaults
pub mod Shown
pub mod Version
