-- Definitions of messages and replies, and which lines spell which.
pub mod Messages
pub mod Lines
pub mod Words
pub mod Grammar
pub mod Replies
pub mod FirstLine
