-- Definitions of the map of a device.
pub mod Layout
