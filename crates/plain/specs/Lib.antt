-- Definitions of the maps that the serial server keeps.
pub mod Keys
pub mod Server
pub mod Answering
pub mod Ends
