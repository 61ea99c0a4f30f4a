-- Laws of the first line of some bytes, and of what is unread.
use Rattle.std.proofs.lemmas.Grind.{common_steps}
use Rattle.std.proofs.Common.{◌≡◌, ◌≢◌, ℕ, suc, min, ◌+◌, ◌-◌, ◌<◌, ◌≤◌, ◌⊎◌, inl, inr, Bool, true, false, List, [], ◌∷◌, ◌++◌, length, take, get_or, Option, Some, None, IfSome, refl, sym, ap, ◌∙◌, subst, arith, append-nil, append_assoc}
use Rattle.std.specs.List.{Contains, slice_range}
use Rattle.std.specs.Io.KnownBytes.{prepend_known, Keeps, Consumes, IsAtEnd}
use Rattle.std.proofs.KnownBytes.{prepend_known-nil}
use Rattle.std.proofs.lemmas.Bool.{false≢true, cases_eq, cases_lt}
use Rattle.std.proofs.lemmas.List.{length-append, get_or_default, get_or_append_left}
use Rattle.std.proofs.lemmas.List.Edits.{length-between, get_or-between}
use Rattle.std.proofs.lemmas.List.Elements.{All-nil, All-head, All-tail, All-append, All-from_get_or, All-contains, All-from_recursion, recursion_from_All}
use Rattle.std.proofs.lemmas.Option.{none-some, same_Some}
use Rattle.std.specs.Prelude.{◌&&◌}
use Rattle.protocol.specs.declared.sizes.TheConstants.{LONGEST_LINE}
use Rattle.protocol.proofs.FirstLines.{first_line-newline, first_line-other, behind_first_line-newline, behind_first_line-other}
use Rattle.protocol.specs.FirstLine.{first_line, behind_first_line, IsWithinLine, GivesLine, PassesLine, LosesLineStart, HasWholeFirstLine}
use Rattle.message.specs.Reader.{still_to_come, are_none}
use Rattle.message.proofs.Slices.{slice-none, slice-split, slice-first}

-- ---- the first line of bytes that are read in parts

abbrev NoNewline : ℕ → Type 0
NoNewline b = b ≢ 10

pub first_line-within : (xs ys : List ℕ) → IsWithinLine xs → first_line (xs ++ ys) ≡ xs ++ first_line ys
first_line-within [] ys h = refl
first_line-within (x ∷ xs) ys h = first_line-other x (xs ++ ys) (All-head NoNewline x xs h) ∙ ap (λ l. x ∷ l) (first_line-within xs ys (All-tail NoNewline x xs h))

pub behind_first_line-within : (xs ys : List ℕ) → IsWithinLine xs → behind_first_line (xs ++ ys) ≡ behind_first_line ys
behind_first_line-within [] ys h = refl
behind_first_line-within (x ∷ xs) ys h = behind_first_line-other x (xs ++ ys) (All-head NoNewline x xs h) ∙ behind_first_line-within xs ys (All-tail NoNewline x xs h)

pub first_line-all : (xs : List ℕ) → IsWithinLine xs → first_line xs ≡ xs
first_line-all xs h = ap first_line (sym (append-nil xs)) ∙ first_line-within xs [] h ∙ append-nil xs

-- a line that is held whole is the first, whatever follows
pub first_line-whole : (xs ys : List ℕ) → Contains xs 10 → first_line (xs ++ ys) ≡ first_line xs
first_line-whole [] ys (k, low, is) = absurd (omega arith)
first_line-whole (x ∷ xs) ys h = grind (arith, common_steps, first_line-whole xs ys)

pub behind_first_line-whole : (xs ys : List ℕ) → Contains xs 10 → behind_first_line (xs ++ ys) ≡ behind_first_line xs ++ ys
behind_first_line-whole [] ys (k, low, is) = absurd (omega arith)
behind_first_line-whole (x ∷ xs) ys h = grind (arith, common_steps, behind_first_line-whole xs ys)

-- what is read later makes the first line no shorter
pub length-first_line : (xs ys : List ℕ) → length (first_line xs) ≤ length (first_line (xs ++ ys))
length-first_line [] ys = omega arith
length-first_line (x ∷ xs) ys = grind (arith, common_steps, length-first_line xs ys)

-- a newline is not there and missing at once
pub Contains-not_within : (xs : List ℕ) → IsWithinLine xs → Contains xs 10 → ⊥
Contains-not_within xs within there = All-contains NoNewline xs 10 within there refl

-- ---- parts of a buffer

-- no byte of the buffer from i up to k is a newline
abbrev pub NoneFrom : List ℕ → ℕ → ℕ → Type 0
NoneFrom xs i k = (m : ℕ) → i ≤ m → m < k → get_or xs m 0 ≢ 10

pub IsWithinLine-slice : (xs : List ℕ) (i k : ℕ) → k ≤ length xs → NoneFrom xs i k → IsWithinLine (slice_range xs i k)
IsWithinLine-slice xs i k high none = All-from_get_or NoNewline (slice_range xs i k) 0
    (λ m low. let below : m < k - i = omega (arith, length-between xs i k high) in
    let inside : i + m < k = omega arith in
    λ is. none (i + m) (omega arith) inside (sym (get_or-between xs i k m 0 inside) ∙ is))

pub IsWithinLine-whole_slice : (xs : List ℕ) (i k j : ℕ) → j ≤ length xs → j ≤ k → NoneFrom xs i k → IsWithinLine (slice_range xs i j)
IsWithinLine-whole_slice xs i k j high over none = IsWithinLine-slice xs i j high (λ m low below. none m low (omega arith))

pub Contains-slice : (xs : List ℕ) (i k j : ℕ) → i ≤ k → k < j → j ≤ length xs → get_or xs k 0 ≡ 10 → Contains (slice_range xs i j) 10
Contains-slice xs i k j low high within is =
    let there : i + (k - i) ≡ k = omega arith in
    (k - i, omega (arith, length-between xs i j within), get_or-between xs i j (k - i) 10 (omega arith) ∙ ap (λ n. get_or xs n 10) there ∙ get_or_default xs k 10 0 (omega arith) ∙ is)

-- the first line of a part of the buffer ends where the first newline is
pub first_line-slice : (xs : List ℕ) {i k j : ℕ} → i ≤ k → k ≤ j → j ≤ length xs → NoneFrom xs i k → (k < j → get_or xs k 0 ≡ 10) → first_line (slice_range xs i j) ≡ slice_range xs i k
first_line-slice xs {i} {k} {j} low high within none there =
    let quiet = IsWithinLine-slice xs i k (omega arith) none in
    ap first_line (slice-split xs i k j low high) ∙ first_line-within (slice_range xs i k) (slice_range xs k j) quiet
    ∙ ap (λ l. slice_range xs i k ++ l) (elim (cases_lt k j) [
      | inl below ↦ ap first_line (slice-first xs k j below within) ∙ first_line-newline (get_or xs k 0) (slice_range xs (k + 1) j) (there below)
      | inr over ↦ ap first_line (slice-none xs k j over)
    ]) ∙ append-nil (slice_range xs i k)

-- and what lies behind it begins behind that newline
pub behind_first_line-slice : (xs : List ℕ) {i k j n : ℕ} → i ≤ k → k ≤ j → j ≤ length xs → NoneFrom xs i k → (k < j → get_or xs k 0 ≡ 10)
    → n ≡ min j (k + 1) → behind_first_line (slice_range xs i j) ≡ slice_range xs n j
behind_first_line-slice xs {i} {k} {j} {n} low high within none there next =
    let quiet = IsWithinLine-slice xs i k (omega arith) none in
    ap behind_first_line (slice-split xs i k j low high) ∙ behind_first_line-within (slice_range xs i k) (slice_range xs k j) quiet
    ∙ elim (cases_lt k j) [
      | inl below ↦
          let behind : k + 1 ≡ n = omega arith in
          ap behind_first_line (slice-first xs k j below within) ∙ behind_first_line-newline (get_or xs k 0) (slice_range xs (k + 1) j) (there below) ∙ ap (λ m. slice_range xs m j) behind
      | inr over ↦ ap behind_first_line (slice-none xs k j over) ∙ sym (slice-none xs n j (omega arith))
    ]

-- ---- what is unread

pub LosesLineStart-kept : (old new : Option (List ℕ)) → Keeps old new → IfSome old (λ bs. LosesLineStart bs new)
LosesLineStart-kept None new keeps = tt
LosesLineStart-kept (Some x) None keeps = absurd keeps
LosesLineStart-kept (Some x) (Some y) keeps = record { got = []; rest = x; parts = refl; within_line = All-nil NoNewline; left_is = ap Some keeps }

-- if the held bytes have no newline and are dropped, only a front of the first line is lost
pub LosesLineStart-buffered : (buffered : List ℕ) (known : Option (List ℕ)) → IsWithinLine buffered → IfSome (prepend_known buffered known) (λ bs. LosesLineStart bs known)
LosesLineStart-buffered buffered None within = tt
LosesLineStart-buffered buffered (Some ys) within = record { got = buffered; rest = ys; parts = refl; within_line = within; left_is = refl }

losing_twice : (x : List ℕ) (b c : Option (List ℕ)) → LosesLineStart x b → IfSome b (λ bs. LosesLineStart bs c) → LosesLineStart x c
losing_twice x b c first next =
    let P : Option (List ℕ) → Type 0 = λ o. IfSome o (λ bs. LosesLineStart bs c) in
    let second : LosesLineStart first.rest c = subst P first.left_is next in
    record {
      got = first.got ++ second.got;
      rest = second.rest;
      parts = first.parts ∙ ap (λ l. first.got ++ l) second.parts ∙ sym (append_assoc first.got second.got second.rest);
      within_line = All-append NoNewline first.got second.got first.within_line second.within_line;
      left_is = second.left_is;
    }

pub LosesLineStart-trans : (a b c : Option (List ℕ)) → IfSome a (λ bs. LosesLineStart bs b) → IfSome b (λ bs. LosesLineStart bs c) → IfSome a (λ bs. LosesLineStart bs c)
LosesLineStart-trans None b c first next = tt
LosesLineStart-trans (Some x) b c first next = losing_twice x b c first next

passing_behind : (x : List ℕ) (b c : Option (List ℕ)) → LosesLineStart x b → IfSome b (λ bs. c ≡ Some (behind_first_line bs)) → c ≡ Some (behind_first_line x)
passing_behind x b c first next = grind (arith, common_steps, behind_first_line-within)

-- what lies behind the first line is the same after a front of the line was lost
pub behind_first_line-later : (a b c : Option (List ℕ)) → IfSome a (λ bs. LosesLineStart bs b) → IfSome b (λ bs. c ≡ Some (behind_first_line bs)) → IfSome a (λ bs. c ≡ Some (behind_first_line bs))
behind_first_line-later None b c first next = tt
behind_first_line-later (Some x) b c first next = passing_behind x b c first next

-- a whole line is held, or nothing is to come
abbrev pub IsWhole : List ℕ → Option (List ℕ) → Type 0
IsWhole buffered known = Contains buffered 10 ⊎ IsAtEnd known

pub first_line-buffered : (buffered : List ℕ) (known : Option (List ℕ)) → IsWhole buffered known → IfSome (prepend_known buffered known) (λ bs. first_line buffered ≡ first_line bs)
first_line-buffered buffered None whole = tt
first_line-buffered buffered (Some ys) (inl there) = sym (first_line-whole buffered ys there)
first_line-buffered buffered (Some ys) (inr none) = ap first_line (sym (ap (λ l. buffered ++ l) none ∙ append-nil buffered))

pub behind_first_line-buffered : (buffered : List ℕ) (known : Option (List ℕ)) → IsWhole buffered known
    → IfSome (prepend_known buffered known) (λ bs. prepend_known (behind_first_line buffered) known ≡ Some (behind_first_line bs))
behind_first_line-buffered buffered None whole = tt
behind_first_line-buffered buffered (Some ys) (inl there) = ap Some (sym (behind_first_line-whole buffered ys there))
behind_first_line-buffered buffered (Some ys) (inr none) = grind (arith, common_steps)

-- what a search of a part of the buffer shows of the buffer
module _ (xs : List ℕ) (n e r : ℕ) (within : e ≤ length xs) (bound : r ≤ length (slice_range xs n e)) where
  pub NoneFrom-slice : ((m : ℕ) → m < r → get_or (slice_range xs n e) m 0 ≢ 10) → NoneFrom xs n (n + r)
  NoneFrom-slice none m low high is =
      let size = length-between xs n e within in
      let offset : n + (m - n) ≡ m = omega arith in
      none (m - n) (omega arith) (get_or-between xs n e (m - n) 0 (omega arith) ∙ ap (λ k. get_or xs k 0) offset ∙ is)

  pub newline-slice : (r < length (slice_range xs n e) → get_or (slice_range xs n e) r 0 ≡ 10) → n + r < e → get_or xs (n + r) 0 ≡ 10
  newline-slice there low = sym (get_or-between xs n e r 0 low) ∙ there (omega (arith, length-between xs n e within))

-- the bytes that came move from what is to come to what is held
pub Keeps-read : (old new : Option (List ℕ)) (buffered came : List ℕ) → Consumes old new came → Keeps (prepend_known buffered old) (prepend_known (buffered ++ came) new)
Keeps-read None new buffered came consumes = tt
Keeps-read (Some x) None buffered came consumes = absurd consumes
Keeps-read (Some x) (Some y) buffered came consumes = append_assoc buffered came y ∙ ap (λ l. buffered ++ l) (sym consumes)

-- what was read behind bytes without a newline
pub NoneFrom-read : (xs ys : List ℕ) (i j k : ℕ) → take j ys ≡ take j xs → NoneFrom xs i j → NoneFrom ys j k → NoneFrom ys i k
NoneFrom-read xs ys i j k same before behind m low high = grind (arith, common_steps)

-- ---- steps of a reader of lines: held bytes, and what is to come

-- after a front of the first line was lost, the held bytes are dropped, too
pub LosesLineStart-cleared : (a known : Option (List ℕ)) (buffered empty : List ℕ) → IfSome a (λ bs. LosesLineStart bs (prepend_known buffered known))
    → IsWithinLine buffered → empty ≡ [] → IfSome a (λ bs. LosesLineStart bs (prepend_known empty known))
LosesLineStart-cleared a known buffered empty lost within none =
    let gone : prepend_known empty known ≡ known = ap (λ l. prepend_known l known) none ∙ prepend_known-nil known in
    rw gone (LosesLineStart-trans a (prepend_known buffered known) known lost (LosesLineStart-buffered buffered known within))

IsAtEnd-known_end : (ended : Bool) (known : Option (List ℕ)) → ended ≡ true → IsAtEnd (still_to_come ended known)
IsAtEnd-known_end false known known_end = absurd (false≢true known_end)
IsAtEnd-known_end true None known_end = tt
IsAtEnd-known_end true (Some xs) known_end = refl

pub IsWhole-known_end : (ended : Bool) (buffered : List ℕ) (known : Option (List ℕ)) → (ended ≡ true) ⊎ Contains buffered 10 → IsWhole buffered (still_to_come ended known)
IsWhole-known_end ended buffered known (inl known_end) = inr (IsAtEnd-known_end ended known known_end)
IsWhole-known_end ended buffered known (inr there) = inl there

-- the first line is passed over, after a front of it was lost
pub passed : (a known : Option (List ℕ)) (buffered rest : List ℕ) → IfSome a (λ bs. LosesLineStart bs (prepend_known buffered known)) → IsWhole buffered known
    → rest ≡ behind_first_line buffered → IfSome a (λ bs. prepend_known rest known ≡ Some (behind_first_line bs))
passed a known buffered rest lost whole is =
    rw is (behind_first_line-later a (prepend_known buffered known) (prepend_known (behind_first_line buffered) known) lost (behind_first_line-buffered buffered known whole))

-- too much of a line is held, so the line is too long
pub PassesLine-buffered : (buffered : List ℕ) (known left : Option (List ℕ)) → LONGEST_LINE < length (first_line buffered)
    → IfSome (prepend_known buffered known) (λ bs. left ≡ Some (behind_first_line bs)) → IfSome (prepend_known buffered known) (λ bs. PassesLine bs left)
PassesLine-buffered buffered None left long passed = tt
PassesLine-buffered buffered (Some ys) left long passed = record { long = omega (arith, length-first_line buffered ys); left_is = passed }

some_more : (xs ys : List ℕ) → xs ≢ [] → xs ++ ys ≢ []
some_more [] ys some = absurd (some refl)
some_more (x ∷ xs) ys some = λ is. cc

-- a whole line is held, so it is the first
pub GivesLine-buffered : (buffered line rest : List ℕ) (known : Option (List ℕ)) → IsWhole buffered known → buffered ≢ [] → line ≡ first_line buffered → rest
    ≡ behind_first_line buffered → IfSome (prepend_known buffered known) (λ bs. GivesLine line bs (prepend_known rest known))
GivesLine-buffered buffered line rest None whole some line_is rest_is = tt
GivesLine-buffered buffered line rest (Some ys) whole some line_is rest_is = record {
  more = some_more buffered ys some;
  line_is = line_is ∙ first_line-buffered buffered (Some ys) whole;
  left_is = ap (λ l. prepend_known l (Some ys)) rest_is ∙ behind_first_line-buffered buffered (Some ys) whole;
}

-- ---- the end of the input

contains_front : (xs ys : List ℕ) → Contains xs 10 → Contains (xs ++ ys) 10
contains_front xs ys found = (found.0, omega (arith, found.1, length-append xs ys), get_or_append_left xs ys 10 found.0 found.1 ∙ found.2)

contains_behind : (xs ys : List ℕ) → Contains ys 10 → Contains (xs ++ ys) 10
contains_behind [] ys found = found
contains_behind (x ∷ xs) ys found = let more = contains_behind xs ys found in (suc more.0, omega (arith, more.1), more.2)

-- a newline is there, or none is
pub newline_or_none : (xs : List ℕ) → Contains xs 10 ⊎ IsWithinLine xs
newline_or_none [] = inr (All-nil (λ b. b ≢ 10))
newline_or_none (x ∷ xs) = elim (cases_eq x 10) [
  | inl same ↦ inl (0, omega arith, same)
  | inr other ↦ elim (newline_or_none xs) [
    | inl found ↦ inl (contains_behind (x ∷ []) xs found)
    | inr none ↦ inr (All-from_recursion (λ b. b ≢ 10) (x ∷ xs) (other, recursion_from_All (λ b. b ≢ 10) xs none))
  ]
]

behind_first_line-all : (xs : List ℕ) → IsWithinLine xs → behind_first_line xs ≡ []
behind_first_line-all xs none = ap behind_first_line (sym (append-nil xs)) ∙ behind_first_line-within xs [] none

-- the first line of what is held ends with a newline, or nothing is behind it
pub HasWholeFirstLine-buffered : (ended : Bool) (buffered : List ℕ) (known : Option (List ℕ)) → (ended ≡ true) ⊎ Contains buffered 10
    → HasWholeFirstLine (prepend_known buffered (still_to_come ended known)) (ended && are_none (behind_first_line buffered))
HasWholeFirstLine-buffered false buffered None (inl known_end) = tt
HasWholeFirstLine-buffered false buffered (Some more) (inl known_end) = absurd (false≢true known_end)
HasWholeFirstLine-buffered true buffered None h = tt
HasWholeFirstLine-buffered true buffered (Some more) (inl known_end) = elim (newline_or_none buffered) [
  | inl found ↦ inl (contains_front buffered [] found)
  | inr none ↦ inr (ap are_none (behind_first_line-all buffered none))
]
HasWholeFirstLine-buffered false buffered None (inr found) = tt
HasWholeFirstLine-buffered false buffered (Some more) (inr found) = inl (contains_front buffered more found)
HasWholeFirstLine-buffered true buffered (Some more) (inr found) = inl (contains_front buffered [] found)

closed_behind : (bs : List ℕ) (b : Option (List ℕ)) (drained : Bool) → LosesLineStart bs b → HasWholeFirstLine b drained → Contains bs 10 ⊎ (drained ≡ true)
closed_behind bs None drained lost closed = absurd (none-some lost.rest lost.left_is)
closed_behind bs (Some rest) drained lost closed = elim closed [
  | inl found ↦ inl (subst (λ (z : List ℕ). Contains z 10) (sym lost.parts) (contains_behind lost.got lost.rest (subst (λ (z : List ℕ). Contains z 10) (same_Some rest lost.rest lost.left_is) found)))
  | inr known_end ↦ inr known_end
]

-- if the first line of what is left is whole, then so is the first line with the front that was lost
pub HasWholeFirstLine-behind : (a b : Option (List ℕ)) (drained : Bool) → IfSome a (λ bs. LosesLineStart bs b) → HasWholeFirstLine b drained → HasWholeFirstLine a drained
HasWholeFirstLine-behind None b drained lost closed = tt
HasWholeFirstLine-behind (Some bs) b drained lost closed = closed_behind bs b drained lost closed
