-- Definitions of an image: its pieces, how a state is written as one, and which pieces a message may change.
pub mod Pieces
pub mod Image
pub mod Touched
