-- The steps of a session.
mod SessionSteps
mod Beginnings
-- Messages without data.
mod Asked
-- The maps of a server.
mod ServerCounts
mod Writes
mod Volumes
mod Lengths
mod Removals
mod RemovalOrders
mod Totals
mod Walks
