-- What a device recovers to after a crash, from the clauses of a log's calls.
use Rattle.std.proofs.Common.{◌≡◌, ◌≢◌, ◌<◌, ℕ, Bool, true, false, cond, eqb, List, [], get_or, Option, refl, ◌∙◌, sym, ap, subst, arith}
use Rattle.std.proofs.lemmas.Bool.{ne_eqb}
use Rattle.disk.specs.Device.{Medium, IsSynced}
use Rattle.disk.proofs.IsSynced.{synced_left}
use Rattle.disk.proofs.CrashImagesAre.{weaker}
use Rattle.device_map.specs.Layout.{Layout, part_bytes, root_part, half_part, image_part, other}
use Rattle.oplog.specs.HalfContent.{chain, front}
use Rattle.oplog.specs.Recovery.{Decoding, named_area, current_of, run, recovers_by_area}
use Rattle.oplog.specs.Changes.{IsSameButChain, HasAppended}
use Rattle.oplog.specs.Crash.{RecoversBy, CrashRecovers, AppendRecovers, AllRecover, ImageRecovers, ClearRecovers, ChainRecovers, ChainedRecovers, TornRootRecovers, FlipRecovers}
use Rattle.oplog.proofs.SameRecovery.{same_named, same_chain, grown_as, root_kept, half_kept, image_kept, chain_kept, named_kept, current_kept}

-- where the named half is the current one, its chain byte isn't 1
pub no_chain_by : (n : ℕ) (t : Bool) → n < 2 → cond t (other n) n ≡ n → t ≡ false
no_chain_by n true is_area is = absurd (omega (arith, is, is_area))
no_chain_by n false is_area is = refl

module _ {S : Type 0} (decoding : Decoding S) where
  more_by : {g : Layout} {n h : ℕ} {x : Option S} {more : List (List ℕ)} {a c : List ℕ} → n < 2 → h < 2 → HasAppended g h more a c
      → RecoversBy decoding g n h x a → RecoversBy decoding g n h (run decoding x more) c
  more_by {g} {n} {h} {more} {a} {c} is_area is_half has recovered_before = record {
    named = same_named decoding g h more a c is_half has ∙ recovered_before.named;
    current = ap (λ (b : ℕ). cond (eqb b 1) (other n) n) (same_chain decoding g h more a c is_half has n is_area) ∙ recovered_before.current;
    is = grown_as decoding g h more a c is_half has n is_area recovered_before.current ∙ ap (λ (y : Option S). run decoding y more) recovered_before.is;
  }

  pub append_recovers : AppendRecovers decoding
  append_recovers g n h x more w0 w1 is_area is_half before moments =
      weaker w0 w1 _ _ moments
      (λ c grew. record {
        added = grew.added;
        at_most = grew.at_most;
        by = more_by is_area is_half grew.has.change (before grew.has.old grew.has.left);
      })

  pub all_by_area : AllRecover decoding
  all_by_area g n h k x more w0 w1 is_area is_half before has c left =
      let after = has.left c left in
      more_by is_area is_half after.change (before after.old after.left)

  pub image_by_area : ImageRecovers decoding
  image_by_area g n h x w0 w1 is_area before moments =
      weaker w0 w1 _ _ moments
      (λ c after.
      let recovered_before = before after.old after.left in
      record {
        named = named_kept g (image_part (other n)) after.old c (λ is. omega (arith, is)) after.change ∙ recovered_before.named;
        current = current_kept g n (image_part (other n)) after.old c (λ is. omega (arith, is, is_area)) after.change ∙ recovered_before.current;
        is = image_kept decoding g n after.old c is_area after.change ∙ recovered_before.is;
      })

  pub clear_by_area : ClearRecovers decoding
  clear_by_area g n x w0 w1 is_area before moments =
      weaker w0 w1 _ _ moments
      (λ c after.
      let recovered_before = before after.old after.left in
      record {
        named = named_kept g (half_part (other n)) after.old c (λ is. omega (arith, is)) after.change.same ∙ recovered_before.named;
        current = current_kept g n (half_part (other n)) after.old c (λ is. omega (arith, is, is_area)) after.change.same ∙ recovered_before.current;
        is = half_kept decoding g n after.old c is_area (no_chain_by n (eqb (chain g n after.old) 1) is_area recovered_before.current) after.change.same ∙ recovered_before.is;
      })

  chain_by : {g : Layout} {n : ℕ} {x : Option S} {a c : List ℕ} → n < 2 → front g (other n) a ≡ [] → chain g (other n) a ≢ 1
      → IsSameButChain g n a c → named_area g a ≡ n → recovers_by_area decoding g n a ≡ x → RecoversBy decoding g n (current_of g n c) x c
  chain_by {g} {n} {a} {c} is_area none no_chain change named is = record {
    named = named_kept g (half_part n) a c (λ is. omega (arith, is)) change.same ∙ named;
    current = refl;
    is = chain_kept decoding g n a c is_area (ne_eqb (chain g (other n) a) 1 no_chain) none change ∙ is;
  }

  pub chain_by_area : ChainRecovers decoding
  chain_by_area g n x w0 w1 is_area before empty moments =
      weaker w0 w1 _ _ moments
      (λ c after.
      let recovered_before = before after.old after.left in
      let none = empty after.old after.left in
      chain_by is_area none.0 none.1 after.change recovered_before.named recovered_before.is)

  -- Where nothing is unsynced, a crash leaves what a read gives, so it recovers as that does.
  committed : (g : Layout) (n h : ℕ) (x : Option S) (m : Medium) → IsSynced m → RecoversBy decoding g n h x m.now → CrashRecovers decoding g n h x m
  committed g n h x m synced recovers c left = subst (λ (l : List ℕ). RecoversBy decoding g n h x l) (sym (synced_left m c synced left)) recovers

  pub chained_by_area : ChainedRecovers decoding
  chained_by_area g n x w0 w1 is_area before empty chained =
      let recovered_before = chain_by is_area empty.0 empty.1 chained.same before.named before.is in
      let follows : current_of g n w1.now ≡ other n = ap (λ (b : ℕ). cond (eqb b 1) (other n) n) chained.chain in
      committed g n (other n) x w1 chained.synced (subst (λ (h : ℕ). RecoversBy decoding g n h x w1.now) follows recovered_before)

  either : (x : Option S) (P : ℕ → Option S) (t : Bool) → P 0 ≡ x → P 1 ≡ x → P (cond t 1 0) ≡ x
  either x P true first second = second
  either x P false first second = first

  pub torn_root_recovers : TornRootRecovers decoding
  torn_root_recovers g x w0 w1 before moments =
      weaker w0 w1 _ _ moments
      (λ c after.
      let both = before after.old after.left in
      let kept : (n : ℕ) → recovers_by_area decoding g n c ≡ recovers_by_area decoding g n after.old = λ n. root_kept decoding g n after.old c after.change.same in
      record {
        named = refl;
        current = refl;
        is = either x (λ (n : ℕ). recovers_by_area decoding g n c) (eqb (get_or (part_bytes g root_part c) 0 0) 1) (kept 0 ∙ both.0) (kept 1 ∙ both.1);
      })

  pub flip_by_area : FlipRecovers decoding
  flip_by_area g n h x w0 w1 flip current is =
      committed g n h x w1 flip.synced
      (record {
        named = flip.named;
        current = current_kept g n root_part w0.now w1.now (λ is. omega (arith, is)) flip.same.same ∙ current;
        is = root_kept decoding g n w0.now w1.now flip.same.same ∙ is;
      })
