-- Definitions of a bench: its one rule, the steps that keep it, and the seats that clauses see.
pub mod JobCell
pub mod Rule
pub mod Steps
pub mod Seats
