-- How many bytes of replies may wait, and the records of single messages.
use Rattle.std.proofs.Common.{◌≡◌, ◌∷◌, refl}
use Rattle.std.specs.Prelude.{replicate}
use Rattle.protocol.specs.declared.messages.Msg.TheVariants.{MakeVol, DropVol, Create, Delete, Seal, Unseal, Write, Punch, Read, List as ListFiles, Usage as AskUsage, Summary as AskSummary, SetLabel, Label as AskLabel}
use Rattle.message.specs.Records.{record_of, data_of}
use Rattle.message.specs.declared.reply_buffer.TheConstants.{REPLY_BUFFER_SIZE}

reply_buffer : REPLY_BUFFER_SIZE ≡ 65536
reply_buffer = refl

record_of_makevol : record_of (MakeVol 0 0) ≡ 1 ∷ replicate 519 0
unfolding data_of
record_of_makevol = refl

record_of_dropvol : record_of (DropVol 1 2) ≡ 2 ∷ 1 ∷ 2 ∷ replicate 517 0
unfolding data_of
record_of_dropvol = refl

record_of_create : record_of (Create 1 2 3) ≡ 3 ∷ 1 ∷ 2 ∷ 3 ∷ replicate 516 0
unfolding data_of
record_of_create = refl

record_of_delete : record_of (Delete 1 2 3) ≡ 4 ∷ 1 ∷ 2 ∷ 3 ∷ replicate 516 0
unfolding data_of
record_of_delete = refl

record_of_seal : record_of (Seal 1 2) ≡ 5 ∷ 1 ∷ 2 ∷ replicate 517 0
unfolding data_of
record_of_seal = refl

record_of_unseal : record_of (Unseal 1 2) ≡ 6 ∷ 1 ∷ 2 ∷ replicate 517 0
unfolding data_of
record_of_unseal = refl

record_of_write : record_of (Write 0 0 1 2 (record { 0 = 97 ∷ 98 ∷ replicate 510 0 })) ≡ 7 ∷ 0 ∷ 0 ∷ 1 ∷ 2 ∷ 0 ∷ 0 ∷ 0 ∷ 97 ∷ 98 ∷ replicate 510 0
unfolding data_of
record_of_write = refl

record_of_last_punch : record_of (Punch 3 7 63 255) ≡ 8 ∷ 3 ∷ 7 ∷ 63 ∷ 255 ∷ replicate 515 0
unfolding data_of
record_of_last_punch = refl

record_of_read : record_of (Read 1 2 3 1023) ≡ 9 ∷ 1 ∷ 2 ∷ 3 ∷ 255 ∷ 3 ∷ replicate 514 0
unfolding data_of
record_of_read = refl

record_of_list : record_of (ListFiles 1 2) ≡ 10 ∷ 1 ∷ 2 ∷ replicate 517 0
unfolding data_of
record_of_list = refl

record_of_usage : record_of (AskUsage 1 2) ≡ 11 ∷ 1 ∷ 2 ∷ replicate 517 0
unfolding data_of
record_of_usage = refl

record_of_summary : record_of AskSummary ≡ 12 ∷ replicate 519 0
unfolding data_of
record_of_summary = refl

record_of_setlabel : record_of (SetLabel 0 0 (97 ∷ 98 ∷ replicate 30 0)) ≡ 13 ∷ 0 ∷ 0 ∷ 0 ∷ 0 ∷ 0 ∷ 0 ∷ 0 ∷ 97 ∷ 98 ∷ replicate 510 0
unfolding data_of
record_of_setlabel = refl

record_of_label : record_of (AskLabel 1 2) ≡ 14 ∷ 1 ∷ 2 ∷ replicate 517 0
unfolding data_of
record_of_label = refl
