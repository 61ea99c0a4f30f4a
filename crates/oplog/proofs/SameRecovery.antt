-- Changes of a device that keep what it recovers to, and what records that are added make of it.
use Rattle.std.proofs.Common.{◌≡◌, ◌≢◌, ◌<◌, ℕ, zero, suc, Bool, true, false, not, ◌&&◌, cond, eqb, nat_le, ◌+◌, List, [], ◌∷◌, ◌++◌, length, take, drop, get_or, Option, Some, None, ⊎_elim, refl, sym, ◌∙◌, ap, subst, arith}
use Rattle.std.proofs.lemmas.Bool.{cases_eq}
use Rattle.std.proofs.lemmas.List.{append_assoc, append-nil, drop-drop, get_or-take}
use Rattle.device_map.specs.Layout.{Layout, part_bytes, device_size, header_part, root_part, half_part, image_part, other}
use Rattle.protocol.specs.declared.sizes.TheConstants.{RECORD_SIZE}
use Rattle.oplog.specs.HalfContent.{chain, front, front_in, count_open, rows}
use Rattle.oplog.specs.Recovery.{Decoding, named_area, current_of, in_force, run, is_laid_out, recovers_by_area}
use Rattle.oplog.specs.Changes.{IsSameBut, IsSameButChain, HasAppended}

named_below : (t : Bool) → cond t 1 0 < 2
named_below true = omega arith
named_below false = omega arith

-- the named area is 0 or 1
pub named_area-below : (g : Layout) (c : List ℕ) → named_area g c < 2
named_area-below g c = named_below (eqb (get_or (part_bytes g root_part c) 0 0) 1)

-- where one chain byte isn't 1, not both are
one_chain : (g : Layout) (m : ℕ) (d : List ℕ) → m < 2 → eqb (chain g m d) 1 ≡ false → not (eqb (chain g 0 d) 1 && eqb (chain g 1 d) 1) ≡ true
one_chain g zero d is_half shut = ap (λ (b : Bool). not (b && eqb (chain g 1 d) 1)) shut
one_chain g (suc zero) d is_half shut = ap (λ (b : Bool). not (eqb (chain g 0 d) 1 && b)) shut ∙ never (eqb (chain g 0 d) 1)
  where
    never : (b : Bool) → not (b && false) ≡ true
    never true = refl
    never false = refl
one_chain g (suc (suc m)) d is_half shut = absurd (omega (arith, is_half))

-- The front doesn't depend on the chain byte.
pub front_beside : (capacity : ℕ) (old new : List ℕ) → drop 1 new ≡ drop 1 old → front_in capacity new ≡ front_in capacity old
front_beside capacity old new beside =
    let from : (k : ℕ) → drop (1 + k) new ≡ drop (1 + k) old = λ k. sym (drop-drop k 1 new) ∙ ap (λ (l : List ℕ). drop k l) beside ∙ drop-drop k 1 old in
    let count : 1 + (63 + capacity) ≡ 64 + capacity = omega arith in
    let records : drop (64 + capacity) new ≡ drop (64 + capacity) old = subst (λ (k : ℕ). drop k new ≡ drop k old) count (from (63 + capacity)) in
    λ i. rows RECORD_SIZE (count_open (take capacity (from 63 i))) (records i)

module _ {S : Type 0} (decoding : Decoding S) where
  pub run-append : (x : Option S) (rs ss : List (List ℕ)) → run decoding x (rs ++ ss) ≡ run decoding (run decoding x rs) ss
  run-append None rs ss = refl
  run-append (Some x) [] ss = refl
  run-append (Some x) (r ∷ rs) ss = run-append (decoding.apply x r) rs ss

  -- ---- one part differs, and what counts of it is the same
  same_recovers : (g : Layout) (n : ℕ) (a c : List ℕ) → is_laid_out decoding g c ≡ is_laid_out decoding g a → part_bytes g (image_part n) c
      ≡ part_bytes g (image_part n) a → in_force g n c ≡ in_force g n a → recovers_by_area decoding g n c ≡ recovers_by_area decoding g n a
  same_recovers g n a c laid bytes forced = λ i. cond (laid i) (run decoding (decoding.read (bytes i)) (forced i)) None

  same_laid : (g : Layout) (a c : List ℕ) → part_bytes g header_part c ≡ part_bytes g header_part a → length c ≡ length a → chain g 0 c ≡ chain g 0 a
      → chain g 1 c ≡ chain g 1 a → is_laid_out decoding g c ≡ is_laid_out decoding g a
  same_laid g a c head size first second = λ i. decoding.is_header (head i) && nat_le (device_size g) (size i) && not (eqb (first i) 1 && eqb (second i) 1)

  pub same_forced : (g : Layout) (n : ℕ) (a c : List ℕ) → part_bytes g (half_part n) c ≡ part_bytes g (half_part n) a → part_bytes g (half_part (other n)) c
      ≡ part_bytes g (half_part (other n)) a → in_force g n c ≡ in_force g n a
  same_forced g n a c named others =
      λ i. cond (eqb (get_or (named i) 0 0) 1) (front_in g.capacity (named i) ++ front_in g.capacity (others i)) (front_in g.capacity (named i))

  -- The root zone may hold anything: only the area that it names counts.
  pub root_kept : (g : Layout) (n : ℕ) (a c : List ℕ) → IsSameBut g root_part a c → recovers_by_area decoding g n c ≡ recovers_by_area decoding g n a
  root_kept g n a c same =
      let of_half : (h : ℕ) → part_bytes g (half_part h) c ≡ part_bytes g (half_part h) a = λ h. same.others (half_part h) (λ is. omega (arith, is)) in
      same_recovers g n a c
      (same_laid g a c (same.others header_part (λ is. omega (arith, is))) same.size (ap (λ (l : List ℕ). get_or l 0 0) (of_half 0)) (ap (λ (l : List ℕ). get_or l 0 0) (of_half 1)))
      (same.others (image_part n) (λ is. omega (arith, is))) (same_forced g n a c (of_half n) (of_half (other n)))

  -- So may the image that isn't named.
  pub image_kept : (g : Layout) (n : ℕ) (a c : List ℕ) → n < 2 → IsSameBut g (image_part (other n)) a c → recovers_by_area decoding g n c ≡ recovers_by_area decoding g n a
  image_kept g n a c is_area same =
      let of_half : (h : ℕ) → h < 2 → part_bytes g (half_part h) c ≡ part_bytes g (half_part h) a = λ h is_half. same.others (half_part h) (λ is. omega (arith, is)) in
      same_recovers g n a c
      (same_laid g a c (same.others header_part (λ is. omega (arith, is))) same.size (ap (λ (l : List ℕ). get_or l 0 0) (of_half 0 (omega arith)))
      (ap (λ (l : List ℕ). get_or l 0 0) (of_half 1 (omega arith))))
      (same.others (image_part n) (λ is. omega (arith, is))) (same_forced g n a c (of_half n is_area) (of_half (other n) (omega arith)))

  -- So may the half that isn't named, while the chain byte of the named one isn't 1.
  pub half_kept : (g : Layout) (n : ℕ) (a c : List ℕ) → n < 2 → eqb (chain g n a) 1 ≡ false → IsSameBut g (half_part (other n)) a c → recovers_by_area decoding g n c ≡ recovers_by_area decoding g n a
  half_kept g n a c is_area no_chain same =
      let named : part_bytes g (half_part n) c ≡ part_bytes g (half_part n) a = same.others (half_part n) (λ is. omega (arith, is)) in
      let no_chain' : eqb (chain g n c) 1 ≡ false = ap (λ (l : List ℕ). eqb (get_or l 0 0) 1) named ∙ no_chain in
      let laid : is_laid_out decoding g c ≡ is_laid_out decoding g a =
      (λ i. decoding.is_header (same.others header_part (λ is. omega (arith, is)) i) && nat_le (device_size g) (same.size i) &&
      (one_chain g n c is_area no_chain' ∙ sym (one_chain g n a is_area no_chain)) i) in
      same_recovers g n a c laid (same.others (image_part n) (λ is. omega (arith, is)))
      ((λ i. cond (no_chain' i) (front g n c ++ front g (other n) c) (front g n c)) ∙ ap (λ (l : List ℕ). front_in g.capacity l) named
      ∙ sym (λ i. cond (no_chain i) (front g n a ++ front g (other n) a) (front g n a)))

  -- So may the chain byte of the named half, while the other half has no record in its front and no chain.
  pub chain_kept : (g : Layout) (n : ℕ) (a c : List ℕ) → n < 2 → eqb (chain g (other n) a) 1 ≡ false → front g (other n) a ≡ []
      → IsSameButChain g n a c → recovers_by_area decoding g n c ≡ recovers_by_area decoding g n a
  chain_kept g n a c is_area no_chain none change =
      let same = change.same in
      let others : part_bytes g (half_part (other n)) c ≡ part_bytes g (half_part (other n)) a = same.others (half_part (other n)) (λ is. omega (arith, is, is_area)) in
      let no_chain' : eqb (chain g (other n) c) 1 ≡ false = ap (λ (l : List ℕ). eqb (get_or l 0 0) 1) others ∙ no_chain in
      let none' : front g (other n) c ≡ [] = ap (λ (l : List ℕ). front_in g.capacity l) others ∙ none in
      let laid : is_laid_out decoding g c ≡ is_laid_out decoding g a =
      (λ i. decoding.is_header (same.others header_part (λ is. omega (arith, is)) i) && nat_le (device_size g) (same.size i) &&
      (one_chain g (other n) c (omega arith) no_chain' ∙ sym (one_chain g (other n) a (omega arith) no_chain)) i) in
      same_recovers g n a c laid (same.others (image_part n) (λ is. omega (arith, is, is_area)))
      (alone (eqb (chain g n c) 1) (front g n c) (front g (other n) c) none' ∙ front_beside g.capacity (part_bytes g (half_part n) a) (part_bytes g (half_part n) c) change.beside
      ∙ sym (alone (eqb (chain g n a) 1) (front g n a) (front g (other n) a) none))
    where
      alone : (t : Bool) (rs ss : List (List ℕ)) → ss ≡ [] → cond t (rs ++ ss) rs ≡ rs
      alone true rs ss empty = ap (λ (l : List (List ℕ)). rs ++ l) empty ∙ append-nil rs
      alone false rs ss empty = refl

  -- ---- records added to half h
  module _ (g : Layout) (h : ℕ) (more : List (List ℕ)) (a c : List ℕ) (is_half : h < 2) (has : HasAppended g h more a c) where
    pub same_chain : (m : ℕ) → m < 2 → chain g m c ≡ chain g m a
    same_chain m below =
        ⊎_elim
        (λ (is : m ≡ h).
        let own : chain g h c ≡ chain g h a = sym (get_or-take 64 (part_bytes g (half_part h) c) 0 0 (omega arith))
        ∙ ap (λ (l : List ℕ). get_or l 0 0) has.chain_zone ∙ get_or-take 64 (part_bytes g (half_part h) a) 0 0 (omega arith) in
        subst (λ (k : ℕ). chain g k c ≡ chain g k a) (sym is) own)
        (λ (differs : m ≢ h). ap (λ (l : List ℕ). get_or l 0 0) (has.same.others (half_part m) (λ is. differs (omega (arith, is)))))
        (cases_eq m h)

    grown_laid : is_laid_out decoding g c ≡ is_laid_out decoding g a
    grown_laid = same_laid g a c (has.same.others header_part (λ is. omega (arith, is))) has.same.size (same_chain 0 (omega arith)) (same_chain 1 (omega arith))

    grown_by : (n : ℕ) (t : Bool) → n < 2 → cond t (other n) n ≡ h → cond t (front g n c ++ front g (other n) c) (front g n c) ≡ cond t (front g n a ++ front g (other n) a) (front g n a) ++ more
    grown_by n true is_area is =
        let named : front g n c ≡ front g n a = ap (λ (l : List ℕ). front_in g.capacity l) (has.same.others (half_part n) (λ same. omega (arith, same, is))) in
        let others : front g (other n) c ≡ front g (other n) a ++ more = subst (λ (m : ℕ). front g m c ≡ front g m a ++ more) (sym is) has.front in
        (λ i. named i ++ others i) ∙ sym (append_assoc (front g n a) (front g (other n) a) more)
    grown_by n false is_area is = subst (λ (m : ℕ). front g m c ≡ front g m a ++ more) (sym is) has.front

    pub grown_force : (n : ℕ) → n < 2 → current_of g n a ≡ h → in_force g n c ≡ in_force g n a ++ more
    grown_force n is_area is =
        (λ i. cond (eqb (same_chain n is_area i) 1) (front g n c ++ front g (other n) c) (front g n c)) ∙ grown_by n (eqb (chain g n a) 1) is_area is

    run_more : (laid : Bool) (x : Option S) (rs : List (List ℕ)) → cond laid (run decoding x (rs ++ more)) None ≡ run decoding (cond laid (run decoding x rs) None) more
    run_more true x rs = run-append x rs more
    run_more false x rs = refl

    pub grown_as : (n : ℕ) → n < 2 → current_of g n a ≡ h → recovers_by_area decoding g n c ≡ run decoding (recovers_by_area decoding g n a) more
    grown_as n is_area is =
        (λ i. cond (grown_laid i) (run decoding (decoding.read (has.same.others (image_part n) (λ same. omega (arith, same)) i)) (grown_force n is_area is i)) None)
        ∙ run_more (is_laid_out decoding g a) (decoding.read (part_bytes g (image_part n) a)) (in_force g n a)

    pub same_named : named_area g c ≡ named_area g a
    same_named = ap (λ (l : List ℕ). cond (eqb (get_or l 0 0) 1) 1 0) (has.same.others root_part (λ is. omega (arith, is)))

-- what the root zone names, while another part changes
pub named_kept : (g : Layout) (p : ℕ) (a c : List ℕ) → root_part ≢ p → IsSameBut g p a c → named_area g c ≡ named_area g a
named_kept g p a c apart same = ap (λ (l : List ℕ). cond (eqb (get_or l 0 0) 1) 1 0) (same.others root_part apart)

-- the current half of an area, while another part than its half changes
pub current_kept : (g : Layout) (n p : ℕ) (a c : List ℕ) → half_part n ≢ p → IsSameBut g p a c → current_of g n c ≡ current_of g n a
current_kept g n p a c apart same = ap (λ (l : List ℕ). cond (eqb (get_or l 0 0) 1) (other n) n) (same.others (half_part n) apart)
