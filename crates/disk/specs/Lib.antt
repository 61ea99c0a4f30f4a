-- Definitions of a device: its calls, what a crash leaves at each moment, and devices of a file and in memory.
pub mod BackingFile
pub mod Device
pub mod InjectedFault
pub mod Memory
pub mod CrashImages
pub mod RealFile
pub mod GhostDevice
pub mod FailStop
pub mod Span
pub mod Store
