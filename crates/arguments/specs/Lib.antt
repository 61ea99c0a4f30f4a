-- Definitions of what a command line asks for.
pub mod Arguments
pub mod Tables
