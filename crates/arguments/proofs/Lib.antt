-- The lemmas of this crate: what words ask for, that they name a command and give it a device, the options of a command, and what an
-- error of clap is about.
mod AnswerOf
mod HasDevice
mod NamesCommand
pub mod Asks
mod Options
pub mod Examples
