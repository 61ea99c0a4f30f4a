-- What a crash may leave, by parts of a device, and of a device that is written.
use Rattle.std.proofs.Common.{◌≡◌, ℕ, zero, suc, ◌+◌, ◌≤◌, Bool, true, false, List, [], ◌∷◌, length, take, drop, replicate, refl, sym, ◌∙◌, ap, subst, arith, length-take, length-drop}
use Rattle.std.proofs.lemmas.List.{drop-drop, drop_all, take_all}
use Rattle.disk.specs.CrashImages.{AreBytes, SameButUnsynced, IsTornFrom, IsCrashImage}
use Rattle.disk.specs.Device.{Medium, overlaid, marked, SameOutside}
use Rattle.disk.proofs.Bytes.{bytes-overlaid, bytes-range}
use Rattle.disk.proofs.Overlays.{length-overlaid, take-overlaid, drop-overlaid, range-overlaid, take-marked, drop-marked}

same_itself : (now : List ℕ) (unsynced : List Bool) → SameButUnsynced now unsynced now
same_itself [] unsynced = tt
same_itself (b ∷ now) [] = same_itself now []
same_itself (b ∷ now) (true ∷ unsynced) = same_itself now unsynced
same_itself (b ∷ now) (false ∷ unsynced) = (refl, same_itself now unsynced)

-- the device as it is now is one of those that a crash may leave
pub itself : (now : List ℕ) (unsynced : List Bool) → AreBytes now → IsTornFrom now unsynced now
itself now unsynced are = record { same = same_itself now unsynced; bytes = are }

length-same : (now : List ℕ) (unsynced : List Bool) (c : List ℕ) → SameButUnsynced now unsynced c → length c ≡ length now
length-same [] unsynced [] left = refl
length-same [] unsynced (x ∷ c) left = absurd left
length-same (b ∷ now) unsynced [] left = absurd left
length-same (b ∷ now) [] (x ∷ c) left = ap (λ (n : ℕ). suc n) (length-same now [] c left)
length-same (b ∷ now) (true ∷ unsynced) (x ∷ c) left = ap (λ (n : ℕ). suc n) (length-same now unsynced c left)
length-same (b ∷ now) (false ∷ unsynced) (x ∷ c) left = ap (λ (n : ℕ). suc n) (length-same now unsynced c left.1)

-- a crash keeps the length
pub length-left : (now : List ℕ) (unsynced : List Bool) (c : List ℕ) → IsTornFrom now unsynced c → length c ≡ length now
length-left now unsynced c left = length-same now unsynced c left.same

-- where nothing is unsynced, a crash leaves what a read gives
pub kept_same : (now : List ℕ) (n : ℕ) (c : List ℕ) → length now ≤ n → SameButUnsynced now (replicate n false) c → c ≡ now
kept_same [] n [] long left = refl
kept_same [] n (x ∷ c) long left = absurd left
kept_same (b ∷ now) n [] long left = absurd left
kept_same (b ∷ now) zero (x ∷ c) long left = absurd (omega (arith, long))
kept_same (b ∷ now) (suc n) (x ∷ c) long left = let rest = kept_same now n c (omega (arith, long)) left.1 in let e = left.0 in cc

no_marks : (n : ℕ) → ◌≡◌ {A = List Bool} (take n []) []
no_marks n = take_all n [] (omega arith)

none_behind : (n : ℕ) → ◌≡◌ {A = List Bool} (drop n []) []
none_behind n = drop_all n [] (omega arith)

-- What a crash may leave of a device is, up to offset n and from there on, what one may leave of that part alone.
front_same : (n : ℕ) (now : List ℕ) (unsynced : List Bool) (c : List ℕ) → SameButUnsynced now unsynced c → SameButUnsynced (take n now) (take n unsynced) (take n c)
front_same zero now unsynced c left = tt
front_same (suc n) [] unsynced [] left = tt
front_same (suc n) [] unsynced (x ∷ c) left = absurd left
front_same (suc n) (b ∷ now) unsynced [] left = absurd left
front_same (suc n) (b ∷ now) [] (x ∷ c) left = subst (λ (l : List Bool). SameButUnsynced (take n now) l (take n c)) (no_marks n) (front_same n now [] c left)
front_same (suc n) (b ∷ now) (true ∷ unsynced) (x ∷ c) left = front_same n now unsynced c left
front_same (suc n) (b ∷ now) (false ∷ unsynced) (x ∷ c) left = (left.0, front_same n now unsynced c left.1)

back_same : (n : ℕ) (now : List ℕ) (unsynced : List Bool) (c : List ℕ) → SameButUnsynced now unsynced c → SameButUnsynced (drop n now) (drop n unsynced) (drop n c)
back_same zero now unsynced c left = left
back_same (suc n) [] unsynced [] left = tt
back_same (suc n) [] unsynced (x ∷ c) left = absurd left
back_same (suc n) (b ∷ now) unsynced [] left = absurd left
back_same (suc n) (b ∷ now) [] (x ∷ c) left = subst (λ (l : List Bool). SameButUnsynced (drop n now) l (drop n c)) (none_behind n) (back_same n now [] c left)
back_same (suc n) (b ∷ now) (true ∷ unsynced) (x ∷ c) left = back_same n now unsynced c left
back_same (suc n) (b ∷ now) (false ∷ unsynced) (x ∷ c) left = back_same n now unsynced c left.1

joined_same : (n : ℕ) (now : List ℕ) (unsynced : List Bool) (c : List ℕ) → SameButUnsynced (take n now) (take n unsynced) (take n c)
    → SameButUnsynced (drop n now) (drop n unsynced) (drop n c) → SameButUnsynced now unsynced c
joined_same zero now unsynced c front back = back
joined_same (suc n) [] unsynced [] front back = tt
joined_same (suc n) [] unsynced (x ∷ c) front back = absurd front
joined_same (suc n) (b ∷ now) unsynced [] front back = absurd front
joined_same (suc n) (b ∷ now) [] (x ∷ c) front back =
    joined_same n now [] c (subst (λ (l : List Bool). SameButUnsynced (take n now) l (take n c)) (sym (no_marks n)) front)
    (subst (λ (l : List Bool). SameButUnsynced (drop n now) l (drop n c)) (sym (none_behind n)) back)
joined_same (suc n) (b ∷ now) (true ∷ unsynced) (x ∷ c) front back = joined_same n now unsynced c front back
joined_same (suc n) (b ∷ now) (false ∷ unsynced) (x ∷ c) front back = (front.0, joined_same n now unsynced c front.1 back)

-- Where nothing in a range of n bytes is unsynced, a crash leaves there what a read gives.
pub range_kept : (at n : ℕ) (m : Medium) (c : List ℕ) → take n (drop at m.unsynced) ≡ replicate n false → IsCrashImage m c → take n (drop at c) ≡ take n (drop at m.now)
range_kept at n m c synced left =
    let within = front_same n (drop at m.now) (drop at m.unsynced) (drop at c) (back_same at m.now m.unsynced c left.same) in
    kept_same (take n (drop at m.now)) n (take n (drop at c)) (omega (arith, length-take n (drop at m.now)))
    (subst (λ (l : List Bool). SameButUnsynced (take n (drop at m.now)) l (take n (drop at c))) synced within)

along : {now now' : List ℕ} {unsynced unsynced' : List Bool} {c c' : List ℕ} → now ≡ now' → unsynced ≡ unsynced' → c ≡ c' → SameButUnsynced now unsynced c → SameButUnsynced now' unsynced' c'
along {now} {now'} {unsynced} {unsynced'} {c} {c'} e f g left =
    subst (λ (x : List ℕ). SameButUnsynced x unsynced' c') e (subst (λ (x : List Bool). SameButUnsynced now x c') f (subst (λ (x : List ℕ). SameButUnsynced now unsynced x) g left))

-- what a crash has left (c), with the bytes of this range as they were before (old)
abbrev pub put_back : ℕ → ℕ → List ℕ → List ℕ → List ℕ
put_back at n old c = overlaid c at (take n (drop at old))

-- One write of n bytes, done or failed: a crash after it leaves what a crash before it might have left, but for the
-- range.
module _ (at n : ℕ) (old now : List ℕ) (unsynced : List Bool) (c : List ℕ) (inside : at + n ≤ length old) (outside : SameOutside at n old now)
    (are : AreBytes old) (left : IsTornFrom now (marked unsynced at n) c) where
  range-size : length (take n (drop at old)) ≡ n
  range-size = simp (length-take, length-drop) (omega (arith, inside))

  long : length c ≡ length old
  long = length-left now (marked unsynced at n) c left ∙ outside.size

  before : SameButUnsynced (take at old) (take at unsynced) (take at (put_back at n old c))
  before = along outside.before (take-marked unsynced at n) (sym (take-overlaid c at (take n (drop at old)))) (front_same at now (marked unsynced at n) c left.same)

  within : take n (drop at (put_back at n old c)) ≡ take n (drop at old)
  within =
      let put = range-overlaid c at (take n (drop at old)) (omega (arith, inside, range-size, long)) in
      subst (λ (k : ℕ). take k (drop at (put_back at n old c)) ≡ take n (drop at old)) range-size put

  behind : drop (at + n) (put_back at n old c) ≡ drop (at + n) c
  behind = subst (λ (k : ℕ). drop (at + k) (put_back at n old c) ≡ drop (at + k) c) range-size (drop-overlaid c at (take n (drop at old)))

  after : SameButUnsynced (drop n (drop at old)) (drop n (drop at unsynced)) (drop n (drop at (put_back at n old c)))
  after =
      along (drop-drop n at now ∙ outside.after ∙ sym (drop-drop n at old)) (drop-drop n at (marked unsynced at n) ∙ drop-marked unsynced at n ∙ sym (drop-drop n at unsynced))
      (drop-drop n at c ∙ sym behind ∙ sym (drop-drop n at (put_back at n old c)))
      (back_same n (drop at now) (drop at (marked unsynced at n)) (drop at c) (back_same at now (marked unsynced at n) c left.same))

  pub undone : IsTornFrom old unsynced (put_back at n old c)
  undone = record {
    same =
        joined_same at old unsynced (put_back at n old c) before
        (joined_same n (drop at old) (drop at unsynced) (drop at (put_back at n old c)) (along refl refl (sym within) (same_itself (take n (drop at old)) (take n (drop at unsynced)))) after);
    bytes = bytes-overlaid c at (take n (drop at old)) left.bytes (bytes-range at n old are);
  }

  pub same_but_range : SameOutside at n (put_back at n old c) c
  same_but_range = record {
    before = sym (take-overlaid c at (take n (drop at old)));
    after = sym behind;
    size = sym (length-overlaid c at (take n (drop at old)));
  }
