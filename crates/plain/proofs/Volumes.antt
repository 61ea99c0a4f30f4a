-- What the state is where the volume at one key changes.
use Rattle.std.proofs.Common.{arith, ◌≡◌, ℕ, ◌<◌, Bool, true, false, cond, List, ap, sym, ◌∙◌}
use Rattle.std.proofs.lemmas.Grind.{common_steps}
use Rattle.std.specs.Prelude.{◌&&◌, ◌||◌, ◌==◌, not, if◌then◌else◌, Option, None, Some}
use Rattle.std.specs.BTreeMap.{is_at}
use Rattle.protocol.specs.declared.messages.Block.{Block}
use Rattle.protocol.specs.declared.messages.Msg.TheVariants.{MakeVol, Create, Seal, Unseal, SetLabel}
use Rattle.protocol.specs.Replies.{has_file}
use Rattle.meaning.specs.State.{Map, VolumeKey, FileKey, BlockKey, dropping, clearing, is_volume, is_file, is_file_of}
use Rattle.meaning.specs.Step.{effect, no_label}
use Rattle.meaning.specs.KeyOrders.{volume_order}
use Rattle.meaning.proofs.FileBits.{with_bit, with_bit_has}
use Rattle.plain.specs.declared.server.Volume.{Volume}
use Rattle.plain.specs.Server.{volume_is_sealed, volume_has_file, state_of}

module _ (m n : Map VolumeKey Volume) (a v : ℕ) (o : Option Volume) (h : (k : VolumeKey) → n k ≡ cond (is_at (volume_order (a, v)) k) o (m k)) where
  added : (ask : Option Volume → Bool) → ask o ≡ true → (k : VolumeKey) → ask (n k) ≡ (is_volume a v k || ask (m k))
  added ask now k = grind (arith, common_steps)

  dropped : (ask : Option Volume → Bool) → ask o ≡ false → (k : VolumeKey) → ask (n k) ≡ (not (is_volume a v k) && ask (m k))
  dropped ask now k = grind (arith, common_steps)

  file_added : (f : ℕ) → ((i : ℕ) → volume_has_file o i ≡ ((f == i) || volume_has_file (m (a, v)) i)) → (k : FileKey)
      → volume_has_file (n (k.0, k.1)) k.2 ≡ (is_file a v f k || volume_has_file (m (k.0, k.1)) k.2)
  file_added f more k = grind (arith, common_steps)

  module _ (blocks : Map BlockKey Block) where
    pub no_volume_state : o ≡ None → state_of n blocks ≡ record (state_of m blocks) {
      made = dropping (is_volume a v) (state_of m blocks).made;
      sealed = dropping (is_volume a v) (state_of m blocks).sealed;
      files = dropping (is_file_of a v) (state_of m blocks).files;
      labels = clearing (is_volume a v) (state_of m blocks).labels;
    }
    no_volume_state now = grind (arith, common_steps)

    -- a volume that wasn't there, with nothing in it
    pub new_volume_state : m (a, v) ≡ None → o ≡ Some (record { sealed = false; label = no_label; files = 0 }) → state_of n blocks ≡ effect (state_of m blocks) (MakeVol a v)
    new_volume_state was now = grind (arith, common_steps)

    -- a volume that is there changes
    module _ {w : Volume} (was : m (a, v) ≡ Some w) where
      -- whether it is sealed changes
      seal_state : (sealed : Bool) → o ≡ Some (record w { sealed = sealed }) → state_of n blocks ≡ record (state_of m blocks) { sealed = (state_of n blocks).sealed }
      seal_state sealed now = grind (arith, common_steps)

      pub sealed_state : (sealed : Bool) → o ≡ Some (record w { sealed = sealed }) → state_of n blocks ≡ effect (state_of m blocks) (if sealed then Seal a v else Unseal a v)
      sealed_state true now = seal_state true now ∙ (λ i. record (state_of m blocks) { sealed = λ k. added volume_is_sealed (ap volume_is_sealed now) k i })
      sealed_state false now = seal_state false now ∙ (λ i. record (state_of m blocks) { sealed = λ k. dropped volume_is_sealed (ap volume_is_sealed now) k i })

      pub label_state : (bytes : List ℕ) → o ≡ Some (record w { label = bytes }) → state_of n blocks ≡ effect (state_of m blocks) (SetLabel a v bytes)
      label_state bytes now = grind (arith, common_steps)

      -- the number whose bits are its files changes
      files_state : (files : ℕ) → o ≡ Some (record w { files = files }) → state_of n blocks ≡ record (state_of m blocks) { files = (state_of n blocks).files }
      files_state files now = grind (arith, common_steps)

      pub new_file_state : (f : ℕ) → f < 64 → o ≡ Some (record w { files = with_bit w.files f }) → state_of n blocks ≡ effect (state_of m blocks) (Create a v f)
      new_file_state f lt now = files_state (with_bit w.files f) now ∙ (λ i. record (state_of m blocks) {
        files = λ k. file_added f (λ j. ap (λ w. volume_has_file w j) now ∙ with_bit_has w.files f lt j ∙ sym (ap (λ w. (f == j) || volume_has_file w j) was)) k i;
      })

      pub no_file_state : (f files : ℕ) → o ≡ Some (record w { files = files }) → ((j : ℕ) → has_file files j ≡ (not (f == j) && has_file w.files j))
          → state_of n blocks ≡ record (state_of m blocks) { files = dropping (is_file a v f) (state_of m blocks).files }
      no_file_state f files now less = grind (arith, common_steps)
