-- Several batches of records, one behind the other.
use Rattle.std.proofs.Common.{◌≡◌, ℕ, zero, suc, ◌+◌, ◌≤◌, List, [], ◌∷◌, ◌++◌, length, take, drop, refl, sym, ◌∙◌, ap, subst, arith, length-append}
use Rattle.std.proofs.lemmas.List.{append-nil, append_assoc, map-append, length-map, length-take-le, take-append-le, take-take, take-append-drop, drop-take, drop-drop}
use Rattle.disk.specs.Device.{Medium}
use Rattle.disk.specs.CrashImages.{CrashImagesAre}
use Rattle.disk.proofs.CrashImagesAre.{started, weaker, then}
use Rattle.protocol.specs.declared.messages.Msg.{Msg}
use Rattle.message.specs.Records.{record_of}
use Rattle.device_map.specs.Layout.{Layout, half_part}
use Rattle.oplog.specs.HalfContent.{front}
use Rattle.oplog.specs.Changes.{HasAppended, HasAppendedPrefix, IsReady, HasAppendedAll}
use Rattle.oplog.specs.ChangeRecords.{records_of}
use Rattle.oplog.proofs.PartLemmas.{same_but_both, same_but_none}

-- ---- lists

take-beyond : {X : Type 0} (xs ys : List X) (j : ℕ) → take (length xs + j) (xs ++ ys) ≡ xs ++ take j ys
take-beyond [] ys j = let none : zero + j ≡ j = omega arith in ap (λ (k : ℕ). take k ys) none
take-beyond (x ∷ xs) ys j =
    let more : suc (length xs) + j ≡ suc (length xs + j) = omega arith in
    rw more (ap (λ l. x ∷ l) (take-beyond xs ys j))

take-further : {X : Type 0} (xs : List X) (m n : ℕ) → take m xs ++ take n (drop m xs) ≡ take (m + n) xs
take-further xs m n =
    (λ i. sym (take-take m (m + n) xs (omega arith)) i ++ sym (drop-take m n xs) i) ∙ take-append-drop m (take (m + n) xs)

-- ---- records added after records

pub no_more : (g : Layout) (h : ℕ) (c : List ℕ) → HasAppended g h [] c c
no_more g h c = record { same = same_but_none g (half_part h) c; chain_zone = refl; front = sym (append-nil (front g h c)) }

pub more_then : {g : Layout} {h : ℕ} {more others : List (List ℕ)} {a b c : List ℕ} → HasAppended g h more a b → HasAppended g h others b c → HasAppended g h (more ++ others) a c
more_then {g} {h} {more} {others} {a} {b} {c} first second = record {
  same = same_but_both g (half_part h) a b c first.same second.same;
  chain_zone = second.chain_zone ∙ first.chain_zone;
  front = second.front ∙ ap (λ (l : List (List ℕ)). l ++ others) first.front ∙ append_assoc (front g h a) more others;
}

-- Of the records `all` the first ones, `more`, were added to half h, behind k others.
pub record SoFar (g : Layout) (h k : ℕ) (more all : List (List ℕ)) (old new : Medium) : Type 0 where
  pub moments : CrashImagesAre old new (HasAppendedPrefix g h all old)
  pub has : HasAppendedAll g h k more old new

pub begun : (g : Layout) (h k : ℕ) (all : List (List ℕ)) (m : Medium) → IsReady g h k m → SoFar g h k [] all m m
begun g h k all m ready = record {
  moments = started m _ (λ c left. record { added = 0; at_most = omega arith; has = record { old = c; left = left; change = no_more g h c } });
  has = record {
    has = no_more g h m.now;
    ready = let same : k ≡ k + length {A = List ℕ} [] = omega arith in subst (λ (j : ℕ). IsReady g h j m) same ready;
    left = λ c left. record { old = c; left = left; change = no_more g h c };
    synced = λ synced. synced;
  };
}

-- One batch more.
module _ (g : Layout) (h k : ℕ) (more batch later : List (List ℕ)) (w0 w w' : Medium) (so_far : SoFar g h k more (more ++ (batch ++ later)) w0 w) where
  pub batch_moments : CrashImagesAre w w' (HasAppendedPrefix g h batch w) → CrashImagesAre w0 w' (HasAppendedPrefix g h (more ++ (batch ++ later)) w0)
  batch_moments moments =
      then w0 w w' _ so_far.moments
      (weaker w w' _ _ moments
      (λ c grew.
      let before = so_far.has.left grew.has.old grew.has.left in
      let added = length more + grew.added in
      let are : more ++ take grew.added batch ≡ take added (more ++ (batch ++ later)) =
      sym (take-beyond more (batch ++ later) grew.added ∙ ap (λ (l : List (List ℕ)). more ++ l) (take-append-le grew.added batch later grew.at_most)) in
      record {
        added = added;
        at_most = omega (arith, grew.at_most, length-append more (batch ++ later), length-append batch later);
        has = record {
          old = before.old;
          left = before.left;
          change = subst (λ (l : List (List ℕ)). HasAppended g h l before.old c) are (more_then before.change grew.has.change);
        };
      }))

  pub batch_more : CrashImagesAre w w' (HasAppendedPrefix g h batch w) → HasAppendedAll g h (k + length more) batch w w' → SoFar g h k (more ++ batch) (more ++ (batch ++ later)) w0 w'
  batch_more moments has = record {
    moments = batch_moments moments;
    has = record {
      has = more_then so_far.has.has has.has;
      ready = let count : k + length more + length batch ≡ k + length (more ++ batch) = omega (arith, length-append more batch) in subst (λ (j : ℕ). IsReady g h j w') count has.ready;
      left = λ c left.
          let later = has.left c left in
          let before = so_far.has.left later.old later.left in record { old = before.old; left = before.left; change = more_then before.change later.change };
      synced = λ synced. has.synced (so_far.has.synced synced);
    };
  }

-- ---- the same of the records of messages, of which the first m were added and the next n follow
module _ (g : Layout) (h k m n : ℕ) (messages : List Msg) (inside : m + n ≤ length messages) (w0 w w' : Medium) where
  parted : records_of (take m messages) ++ (records_of (take n (drop m messages)) ++ records_of (drop (m + n) messages)) ≡ records_of messages
  parted =
      ap (λ (l : List (List ℕ)). records_of (take m messages) ++ l)
      (sym (map-append record_of (take n (drop m messages)) (drop (m + n) messages))
      ∙ ap records_of (ap (λ (l : List Msg). take n (drop m messages) ++ l) (sym (drop-drop n m messages)) ∙ take-append-drop n (drop m messages)))
      ∙ sym (map-append record_of (take m messages) (drop m messages)) ∙ ap records_of (take-append-drop m messages)

  joined : records_of (take m messages) ++ records_of (take n (drop m messages)) ≡ records_of (take (m + n) messages)
  joined = sym (map-append record_of (take m messages) (take n (drop m messages))) ∙ ap records_of (take-further messages m n)

  count : length (records_of (take m messages)) ≡ m
  count = length-map (take m messages) record_of ∙ length-take-le m messages (omega (arith, inside))

  module _ (so_far : SoFar g h k (records_of (take m messages)) (records_of messages) w0 w) where
    so_far' : SoFar g h k (records_of (take m messages)) (records_of (take m messages) ++ (records_of (take n (drop m messages)) ++ records_of (drop (m + n) messages))) w0 w
    so_far' = subst (λ (l : List (List ℕ)). SoFar g h k (records_of (take m messages)) l w0 w) (sym parted) so_far

    module _ (moments : CrashImagesAre w w' (HasAppendedPrefix g h (records_of (take n (drop m messages))) w)) where
      pub messages_moments : CrashImagesAre w0 w' (HasAppendedPrefix g h (records_of messages) w0)
      messages_moments = subst (λ (l : List (List ℕ)). CrashImagesAre w0 w' (HasAppendedPrefix g h l w0)) parted (batch_moments g h k _ _ _ w0 w w' so_far' moments)

      pub messages_more : HasAppendedAll g h (k + m) (records_of (take n (drop m messages))) w w' → SoFar g h k (records_of (take (m + n) messages)) (records_of messages) w0 w'
      messages_more has =
          rw (← joined, ← parted) (batch_more g h k _ _ _ w0 w w' so_far' moments (rw count has))
