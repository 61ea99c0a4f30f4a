-- What a device recovers to, by the area that it names, and what it would recover to by the other one.
use Rattle.std.proofs.Common.{◌≡◌, ◌<◌, ℕ, zero, suc, Bool, true, false, not, ◌&&◌, cond, eqb, nat_le, ◌+◌, List, [], ◌++◌, length, drop, get_or, Option, Some, None, is_some, refl, sym, ◌∙◌, ap, arith, true≢false, subst}
use Rattle.affinity.specs.declared.geometry.Geometry.{Geometry}
use Rattle.recovery.specs.Header.{is_header}
use Rattle.recovery.specs.Recovery.{recovered_state, decoding}
use Rattle.disk.specs.CrashImages.{AreBytes, CrashImagesAre}
use Rattle.disk.specs.Device.{Medium}
use Rattle.disk.proofs.IsTornFrom.{itself}
use Rattle.disk.proofs.CrashImagesAre.{weaker}
use Rattle.image.specs.Image.{image_state}
use Rattle.checkpoint.specs.RecoversByArea.{RecoversByArea, run_on}
use Rattle.oplog.specs.Changes.{IsReady}
use Rattle.oplog.specs.Crash.{RecoversBy}
use Rattle.oplog.specs.HalfContent.{chain, front, front_in, rows}
use Rattle.device_map.specs.Layout.{Layout, layout_of, part_bytes, device_size, header_part, half_part, image_part, other}
use Rattle.protocol.specs.declared.sizes.TheConstants.{RECORD_SIZE}
use Rattle.oplog.specs.Recovery.{current_of, in_force, is_laid_out, run, recovers_by_area}
use Rattle.meaning.specs.State.{State}
use Rattle.oplog.proofs.SameRecovery.{named_area-below}

-- ---- by the area that it names

pub holds_by : (g : Geometry) (n h : ℕ) (x : Option State) (c : List ℕ) → RecoversBy (decoding g) (layout_of g) n h x c → recovered_state g c ≡ x
holds_by g n h x c recovered_before = ap (λ (k : ℕ). recovers_by_area (decoding g) (layout_of g) k c) recovered_before.named ∙ recovered_before.is

pub holds_moments : (g : Geometry) (n h : ℕ) (x : Option State) (w0 w1 : Medium) → CrashImagesAre w0 w1 (RecoversBy (decoding g) (layout_of g) n h x)
    → CrashImagesAre w0 w1 (λ c. recovered_state g c ≡ x)
holds_moments g n h x w0 w1 moments = weaker w0 w1 _ _ moments (holds_by g n h x)

pub holds_now : (g : Geometry) (n h : ℕ) (x : Option State) (m : Medium) → AreBytes m.now → RecoversByArea g n h x m → recovered_state g m.now ≡ x
holds_now g n h x m are recovers = holds_by g n h x m.now (recovers m.now (itself m.now m.unsynced are))

-- ---- by the other one

laid_if : (t : Bool) (y x : Option State) → cond t y None ≡ x → is_some x ≡ true → t ≡ true
laid_if true y x is some = refl
laid_if false y x is some = absurd (true≢false (sym some ∙ ap is_some (sym is)))

pub laid_by : (g : Geometry) (n : ℕ) (x : Option State) (c : List ℕ) → recovers_by_area (decoding g) (layout_of g) n c ≡ x → is_some x ≡ true → is_laid_out (decoding g) (layout_of g) c ≡ true
laid_by g n x c is some = laid_if (is_laid_out (decoding g) (layout_of g) c) _ x is some

pub as_other : (g : Geometry) (q : ℕ) (c : List ℕ) → {x : Option State} {bytes : List ℕ} {rs : List (List ℕ)} → is_laid_out (decoding g) (layout_of g) c ≡ true
    → part_bytes (layout_of g) (image_part q) c ≡ bytes → in_force (layout_of g) q c ≡ rs → run_on g (image_state g bytes) rs ≡ x
    → recovers_by_area (decoding g) (layout_of g) q c ≡ x
as_other g q c laid is force leads = (λ i. cond (laid i) (run (decoding g) (image_state g (is i)) (force i)) None) ∙ leads

-- ---- chains

pub shut_force : (l : Layout) (q : ℕ) (c : List ℕ) → eqb (chain l q c) 1 ≡ false → in_force l q c ≡ front l q c
shut_force l q c shut = ap (λ (t : Bool). cond t (front l q c ++ front l (other q) c) (front l q c)) shut

pub shut_current : (l : Layout) (q : ℕ) (c : List ℕ) → eqb (chain l q c) 1 ≡ false → current_of l q c ≡ q
shut_current l q c shut = ap (λ (t : Bool). cond t (other q) q) shut

pub open_by : (n : ℕ) (t : Bool) → n < 2 → cond t (other n) n ≡ other n → t ≡ true
open_by n true is_area is = refl
open_by n false is_area is = absurd (omega (arith, is, is_area))

not_both : (a b : Bool) → not (a && b) ≡ true → a ≡ true → b ≡ false
not_both true true none is = cc
not_both a b none is = cc

not_both' : (a b : Bool) → not (a && b) ≡ true → b ≡ true → a ≡ false
not_both' true true none is = cc
not_both' true false none is = cc
not_both' false b none is = refl

and_last : (a b c : Bool) → (a && b && c) ≡ true → c ≡ true
and_last true true c is = is
and_last a b c is = cc

-- where the chain byte of the named half is 1, that of the other half isn't
pub chain_other : (g : Geometry) (n : ℕ) (c : List ℕ) → n < 2 → is_laid_out (decoding g) (layout_of g) c ≡ true → current_of (layout_of g) n c ≡ other n → eqb (chain (layout_of g) (other n) c) 1
    ≡ false
chain_other g n c is_area laid follows =
    let one : not (eqb (chain (layout_of g) 0 c) 1 && eqb (chain (layout_of g) 1 c) 1)
    ≡ true = and_last (is_header g (part_bytes (layout_of g) header_part c)) (nat_le (device_size (layout_of g)) (length c)) _ laid in
    by n is_area one (open_by n (eqb (chain (layout_of g) n c) 1) is_area follows)
  where
    by : (n : ℕ) → n < 2 → not (eqb (chain (layout_of g) 0 c) 1 && eqb (chain (layout_of g) 1 c) 1) ≡ true → eqb (chain (layout_of g) n c) 1 ≡ true → eqb (chain (layout_of g) (other n) c) 1 ≡ false
    by zero is_area one is = not_both (eqb (chain (layout_of g) 0 c) 1) (eqb (chain (layout_of g) 1 c) 1) one is
    by (suc zero) is_area one is = not_both' (eqb (chain (layout_of g) 0 c) 1) (eqb (chain (layout_of g) 1 c) 1) one is
    by (suc (suc n)) is_area one is = absurd (omega (arith, is_area))

pub not_one : (n : ℕ) → n ≡ 0 → eqb n 1 ≡ false
not_one n zero' = ap (λ (m : ℕ). eqb m 1) zero'

-- ---- fronts

-- a half that is ready with no record has none in its front
pub ready_none : (l : Layout) (h : ℕ) (m : Medium) → IsReady l h 0 m → front l h m.now ≡ []
ready_none l h m ready = ap (λ (n : ℕ). rows RECORD_SIZE n (drop (64 + l.capacity) (part_bytes l (half_part h) m.now))) ready.used

-- what the half holds decides its front and its chain
pub half_same : (l : Layout) (h : ℕ) (a c : List ℕ) → part_bytes l (half_part h) c ≡ part_bytes l (half_part h) a → (front l h c ≡ front l h a) × (chain l h c ≡ chain l h a)
half_same l h a c same = (ap (λ (bytes : List ℕ). front_in l.capacity bytes) same, ap (λ (bytes : List ℕ). get_or bytes 0 0) same)

pub run_none : (g : Geometry) (x : Option State) → run_on g x [] ≡ x
run_none g None = refl
run_none g (Some x) = refl

-- what holds of area n and of the other one holds of areas 0 and 1
pub both_of : (P : ℕ → Type 0) (n : ℕ) → n < 2 → P n → P (other n) → P 0 × P 1
both_of P zero is_area one another = (one, another)
both_of P (suc zero) is_area one another = (another, one)
both_of P (suc (suc n)) is_area one another = absurd (omega (arith, is_area))

-- the area that a device names is 0 or 1
pub named_below : (g : Geometry) (n h : ℕ) (x : Option State) (m : Medium) → AreBytes m.now → RecoversByArea g n h x m → n < 2
named_below g n h x m are recovers = subst (λ (k : ℕ). k < 2) (recovers m.now (itself m.now m.unsynced are)).named (named_area-below (layout_of g) m.now)

current_below : (n : ℕ) (t : Bool) → n < 2 → cond t (other n) n < 2
current_below n true is_area = omega arith
current_below n false is_area = is_area

pub half_below : (g : Geometry) (n h : ℕ) (x : Option State) (m : Medium) → AreBytes m.now → RecoversByArea g n h x m → h < 2
half_below g n h x m are recovers =
    let is_area = named_below g n h x m are recovers in
    subst (λ (k : ℕ). k < 2) (recovers m.now (itself m.now m.unsynced are)).current (current_below n (eqb (chain (layout_of g) n m.now) 1) is_area)
