-- The lemmas of this crate: what is printed of a device, what a service on it did, and what a restart goes on from.
mod ShownText
mod ServedDevice
mod Acknowledged
mod Promise
mod SendsAgain
mod AnyRuns
mod KeepsPromise
mod SerialServer
mod AgreeingRuns
mod Services
mod Exits
mod Examples
