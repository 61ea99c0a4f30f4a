-- The loop that tears a device, and that what it leaves is what a crash may leave.
use Rattle.std.proofs.Common.{◌≡◌, ℕ, ◌+◌, ◌<◌, Bool, true, false, List, [], ◌∷◌, ◌++◌, length, take, drop, set, get_or, refl, sym, ◌∙◌, ap, arith, append_assoc}
use Rattle.std.proofs.lemmas.List.{drop_more, drop-set-lt, take_more, take_more_set}
use Rattle.disk.specs.CrashImages.{SameButUnsynced, torn_from}

-- What the loop has made after i bytes: the first i bytes, as they are now, and what tearing makes of the rest. k counts the unsynced
-- offsets among the first i.
abbrev pub torn_so_far : (ℕ → ℕ → ℕ) → ℕ → ℕ → List Bool → List ℕ → List ℕ
torn_so_far put i k unsynced bytes = take i bytes ++ torn_from put i k (drop i unsynced) (drop i bytes)

module _ (put : ℕ → ℕ → ℕ) (i k : ℕ) (unsynced : List Bool) (bytes : List ℕ) (in_marks : i < length unsynced) (in_bytes : i < length bytes) where
  rest : drop i bytes ≡ get_or bytes i 0 ∷ drop (i + 1) bytes
  rest = drop_more bytes i 0 in_bytes

  pub torn_more : get_or unsynced i false ≡ true → torn_so_far put (i + 1) (k + 1) unsynced (set bytes i (put i k)) ≡ torn_so_far put i k unsynced bytes
  torn_more is =
      let marks : drop i unsynced ≡ true ∷ drop (i + 1) unsynced = drop_more unsynced i false in_marks ∙ ap (λ (b : Bool). b ∷ drop (i + 1) unsynced) is in
      let behind = torn_from put (i + 1) (k + 1) (drop (i + 1) unsynced) (drop (i + 1) bytes) in
      let now : torn_from put i k (drop i unsynced) (drop i bytes) ≡ put i k ∷ behind = rw (marks, rest) in
      ap (λ (l : List ℕ). l ++ torn_from put (i + 1) (k + 1) (drop (i + 1) unsynced) (drop (i + 1) (set bytes i (put i k)))) (take_more_set bytes i (put i k) in_bytes)
      ∙ ap (λ (l : List ℕ). (take i bytes ++ put i k ∷ []) ++ torn_from put (i + 1) (k + 1) (drop (i + 1) unsynced) l) (drop-set-lt (i + 1) bytes i (put i k) (omega arith))
      ∙ append_assoc (take i bytes) (put i k ∷ []) behind
      ∙ ap (λ (l : List ℕ). take i bytes ++ l) (sym now)

  pub kept_more : get_or unsynced i false ≡ false → torn_so_far put (i + 1) k unsynced bytes ≡ torn_so_far put i k unsynced bytes
  kept_more is =
      let marks : drop i unsynced ≡ false ∷ drop (i + 1) unsynced = drop_more unsynced i false in_marks ∙ ap (λ (b : Bool). b ∷ drop (i + 1) unsynced) is in
      let behind = torn_from put (i + 1) k (drop (i + 1) unsynced) (drop (i + 1) bytes) in
      let now : torn_from put i k (drop i unsynced) (drop i bytes) ≡ get_or bytes i 0 ∷ behind = rw (marks, rest) in
      ap (λ (l : List ℕ). l ++ behind) (take_more bytes i 0 in_bytes)
      ∙ append_assoc (take i bytes) (get_or bytes i 0 ∷ []) behind
      ∙ ap (λ (l : List ℕ). take i bytes ++ l) (sym now)

pub torn_leaves : (put : ℕ → ℕ → ℕ) (i k : ℕ) (unsynced : List Bool) (now : List ℕ) → length unsynced ≡ length now → SameButUnsynced now unsynced (torn_from put i k unsynced now)
torn_leaves put i k unsynced [] size = tt
torn_leaves put i k [] (b ∷ now) size = absurd (omega (arith, size))
torn_leaves put i k (true ∷ unsynced) (b ∷ now) size = torn_leaves put (i + 1) (k + 1) unsynced now (omega (arith, size))
torn_leaves put i k (false ∷ unsynced) (b ∷ now) size = (refl, torn_leaves put (i + 1) k unsynced now (omega (arith, size)))
