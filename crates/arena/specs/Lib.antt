-- Definitions of an arena: lists of slots, what contracts see of it (`ArenaView`), and how it is kept.
pub mod Lists
pub mod ArenaView
pub mod Lends
pub mod Linked
pub mod Links
pub mod ArenaRule
