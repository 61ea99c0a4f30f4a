-- Definitions of records, heads of messages, and readers and writers of lines.
pub mod Digits
pub mod Numbers
pub mod Records
pub mod Heads
pub mod Reader
pub mod BufferedOutput
pub mod AppendsBeginning
