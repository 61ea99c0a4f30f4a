-- Definitions of the commands: how each ends, what it prints, and what a service promises over a crash.
pub mod Faults
pub mod Lines
pub mod Ends
pub mod ServedDevice
pub mod Acknowledged
pub mod Promise
pub mod InFile
pub mod SendsAgain
pub mod Services
pub mod Exits
