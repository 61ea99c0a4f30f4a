-- The bytes of a device have one answer: it is opened, or refused for one fault.
use Rattle.std.proofs.Common.{◌≡◌, ◌≤◌, ◌<◌, ℕ, Bool, true, false, List, length, take, Option, Some, None, refl, ap, sym, ◌∙◌, ⊎_elim, arith}
use Rattle.std.specs.Prelude.{nat_lt}
use Rattle.std.proofs.lemmas.Bool.{ltb-false}
use Rattle.std.proofs.lemmas.List.{take-take}
use Rattle.std.proofs.lemmas.Option.{same_Some}
use Rattle.affinity.specs.declared.geometry.Geometry.{Geometry}
use Rattle.recovery.proofs.NotRefused.{is_not_refused, has_header}
use Rattle.recovery.proofs.OneGeometry.{same_geometry}
use Rattle.recovery.specs.Header.{HasHeader, magic}
use Rattle.recovery.specs.Recovery.{recovered_state}
use Rattle.recovery.specs.Refusals.{HasNoGeometry, IsRefused, IsRefusedWith, IsUnformatted, fault_if, refused}
use Rattle.recovery.specs.declared.fault.OpenFault.{OpenFault}
use Rattle.recovery.specs.declared.fault.OpenFault.TheVariants.{Device, TooShort, NotFormatted, BadGeometry, OutOfMemory, BadVersion, BadPiece, BadChain, BadRecord}
use Rattle.disk.specs.CrashImages.{AreBytes}
use Rattle.device_map.specs.Layout.{device_size, layout_of}
use Rattle.meaning.specs.State.{State}
use Rattle.scheduler.specs.OpenFaults.{IsShownByBytes}

-- the first of these that holds of the bytes c, and the answer to it: a refusal, or `None` for an opening
data Found (c : List ℕ) (answer : Option OpenFault) : Type 0 where
  Short : length c < 128 → answer ≡ Some TooShort → Found c answer
  Unformatted : IsUnformatted c → answer ≡ Some NotFormatted → Found c answer
  Without : HasNoGeometry c → answer ≡ Some BadGeometry → Found c answer
  With : (g : Geometry) → 128 ≤ length c → HasHeader g c → refused g c ≡ answer → Found c answer

module _ (c : List ℕ) where
  dirty_at : (g : Geometry) → HasHeader g c → take 8 c ≡ magic
  dirty_at g header = sym (take-take 8 64 c (omega arith)) ∙ ap (λ (l : List ℕ). take 8 l) header

  one_with : (g h : Geometry) → HasHeader g c → HasHeader h c → refused g c ≡ refused h c
  one_with g h this that = ap (λ (x : Geometry). refused x c) (same_geometry g h (sym this ∙ that))

  one : (a b : Option OpenFault) → Found c a → Found c b → a ≡ b
  one a b (Short few is) (Short _ also) = is ∙ sym also
  one a b (Short few is) (Unformatted u also) = absurd (let long = u.0 in omega (arith, few, long))
  one a b (Short few is) (Without w also) = absurd (let long = w.0 in omega (arith, few, long))
  one a b (Short few is) (With g long header also) = absurd (omega (arith, few, long))
  one a b (Unformatted u is) (Short few also) = absurd (let long = u.0 in omega (arith, few, long))
  one a b (Unformatted u is) (Unformatted _ also) = is ∙ sym also
  one a b (Unformatted u is) (Without w also) = absurd (u.1 w.1)
  one a b (Unformatted u is) (With g long header also) = absurd (u.1 (dirty_at g header))
  one a b (Without w is) (Short few also) = absurd (let long = w.0 in omega (arith, few, long))
  one a b (Without w is) (Unformatted u also) = absurd (u.1 w.1)
  one a b (Without w is) (Without _ also) = is ∙ sym also
  one a b (Without w is) (With g long header also) = absurd (w.2 g header)
  one a b (With g long header is) (Short few also) = absurd (omega (arith, few, long))
  one a b (With g long header is) (Unformatted u also) = absurd (u.1 (dirty_at g header))
  one a b (With g long header is) (Without w also) = absurd (w.2 g header)
  one a b (With g long header is) (With h _ this also) = sym is ∙ one_with g h header this ∙ also

  with_fault : (fault : OpenFault) → IsRefusedWith c fault → Found c (Some fault)
  with_fault fault r = With r.geometry r.long r.header r.is

  found : (fault : OpenFault) → IsShownByBytes fault → IsRefused c fault → Found c (Some fault)
  found Device shown r = absurd shown
  found OutOfMemory shown r = absurd shown
  found TooShort shown r = ⊎_elim (λ (few : length c < 128). Short few refl) (with_fault TooShort) r
  found NotFormatted shown r = Unformatted r refl
  found BadGeometry shown r = Without r refl
  found BadVersion shown r = with_fault BadVersion r
  found (BadPiece n) shown r = with_fault (BadPiece n) r
  found BadChain shown r = with_fault BadChain r
  found (BadRecord h i) shown r = with_fault (BadRecord h i) r

  not_first : (short : Bool) (later : Option OpenFault) → fault_if short TooShort later ≡ None → short ≡ false
  not_first true later none = cc
  not_first false later none = refl

  long_enough : (g : Geometry) → refused g c ≡ None → 128 ≤ length c
  long_enough g none =
      let whole = ltb-false (length c) (device_size (layout_of g)) (not_first (nat_lt (length c) (device_size (layout_of g))) _ none) in
      omega (arith, whole)

  pub one_fault : (e fault : OpenFault) → IsShownByBytes e → IsRefused c e → IsShownByBytes fault → IsRefused c fault → e ≡ fault
  one_fault e fault shown is also_shown also = same_Some e fault (one (Some e) (Some fault) (found e shown is) (found fault also_shown also))

  pub opened_or_refused : (g : Geometry) (fault : OpenFault) → HasHeader g c → refused g c ≡ None → IsShownByBytes fault → IsRefused c fault → ⊥
  opened_or_refused g fault header none shown is = absurd (none_some fault (one None (Some fault) (With g (long_enough g none) header none) (found fault shown is)))
    where
      none_some : (fault : OpenFault) → ◌≡◌ {A = Option OpenFault} None (Some fault) → ⊥
      none_some fault is = cc

  pub recovers_or_refused : (g : Geometry) (x : State) (fault : OpenFault) → AreBytes c → recovered_state g c ≡ Some x → IsShownByBytes fault → IsRefused c fault → ⊥
  recovers_or_refused g x fault are stood = opened_or_refused g fault (has_header g c x are stood) (is_not_refused g c x are stood)
