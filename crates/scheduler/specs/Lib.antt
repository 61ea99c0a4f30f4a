-- Definitions of a core: its calls, its core state and its jobs, and what a crash leaves of its device; and of runs on a device:
-- machines, which are cores with hands for the jobs in flight, their steps, events with the device, and incarnations.
pub mod CoreView
pub mod Jobs
pub mod Calls
pub mod OpenFaults
pub mod Slots
pub mod Parts
pub mod View
pub mod IsCore
pub mod HasLogged
pub mod History
pub mod Machine
pub mod Runs
pub mod IsMachineStep
pub mod Hands
pub mod DeviceEvents
pub mod DeviceIncarnations
