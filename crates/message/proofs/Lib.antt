-- The lemmas of this crate: words and numbers of a line, digits, records, and the lines of bytes that are read.
mod Examples
mod Words
mod Numbers
mod Blocks
mod SpellsBytes
mod DigitLoop
mod GrammarByKind
mod Keywords
mod Zeros
mod AppendsText
mod FilesText
mod WrittenParts
pub mod BufferedOutput
pub mod AppendsBeginning
pub mod Spells
pub mod RecordLemmas
mod ReaderLemmas
mod Slices
