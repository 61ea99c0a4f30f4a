-- Definitions of affinities: geometries, paths, kinds of messages, and where each message belongs.
pub mod Geometry
pub mod Interval
pub mod Kind
pub mod Limits
pub mod Path
pub mod Place
