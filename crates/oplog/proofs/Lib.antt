-- ---- For the layer above. The laws of AfterCrash and what keeps what a device recovers to (Kept); a half that is ready
-- ---- (Ready, Batches); parts of a device, written and read (Slices, Reading); records as rows (RecordRows),
-- ---- and which are bad (BadRecords); gates (Gates); a call that is known not to have failed (Answered).
pub mod AfterCrash
pub mod SameRecovery
pub mod Ready
pub mod PartLemmas
pub mod PartsRead
pub mod RecordRows
pub mod ChangeRecords
pub mod Results
pub mod Beyond
pub mod Gates
-- ---- For this crate alone.
mod Batches
mod Batch
mod BatchMoments
mod BatchCounts
mod Examples
mod HasMoreIn
mod OneStore
mod Staged
