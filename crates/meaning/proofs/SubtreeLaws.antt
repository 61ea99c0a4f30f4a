-- Where two states have the same subtree at a path, they agree there and below.
use Rattle.std.proofs.Common.{arith, ◌≡◌, true}
use Rattle.std.specs.Prelude.{◌&&◌, ◌||◌, not}
use Rattle.std.proofs.lemmas.Bool.{or_left}
use Rattle.std.proofs.Math.Bool.{or-not_self}
use Rattle.affinity.specs.declared.geometry.Geometry.{Geometry}
use Rattle.affinity.specs.Path.{Path, is_prefix, are_related}
use Rattle.protocol.specs.declared.messages.Msg.{Msg}
use Rattle.protocol.specs.Messages.{path_of}
use Rattle.meaning.specs.State.{State}
use Rattle.meaning.specs.Subtrees.{AgreeOn, subtree, standing}
use Rattle.meaning.specs.Commute.{outside, RunAlike}
use Rattle.meaning.proofs.AgreeOn.{agree_within, agree_everywhere, agree_either, agree_from_part, part_from_agree}
use Rattle.meaning.proofs.Commute.{reads_only}

-- what is at a path or below, and what is above it, is all that is related to it
shared_or_above : (p q : Path) → are_related p q ≡ true → (is_prefix p q || (is_prefix q p && not (is_prefix p q))) ≡ true
shared_or_above p q h = grind arith

-- Two states with the same subtree and the same standing at a path agree at all that is related to it.
pub agree_from_subtree : (g : Geometry) (p : Path) (x y : State) → subtree g p x ≡ subtree g p y → standing g p x ≡ standing g p y → AgreeOn g (are_related p) x y
agree_from_subtree g p x y s t = agree_within (λ q. shared_or_above p q)
    (agree_either (agree_from_part g (is_prefix p) x y s) (agree_from_part g (λ q. is_prefix q p && not (is_prefix p q)) x y t))

-- What a message is answered, and the subtree that it leaves, depend on nothing but the subtree and the standing at its path.
pub run_from_subtree : (g : Geometry) (x y : State) (m : Msg) → subtree g (path_of g m) x ≡ subtree g (path_of g m) y → standing g (path_of g m) x ≡ standing g (path_of g m) y → RunAlike g x y m
run_from_subtree g x y m s t =
    let p = path_of g m in
    let both = reads_only g (are_related p) x y m (agree_from_subtree g p x y s t) (λ q r. r) in
    record { reply = both.0; subtree_after = part_from_agree g (is_prefix p) _ _ (agree_within (λ q r. or_left (is_prefix p q) (is_prefix q p) r) both.1) }

-- ---- a path and what lies outside it

-- two states that agree at a path and below, and outside it, are one
pub agree_in_and_out : (g : Geometry) (p : Path) (x y : State) → AgreeOn g (is_prefix p) x y → AgreeOn g (outside p) x y → x ≡ y
agree_in_and_out g p x y h j = agree_everywhere {g = g} {R = λ q. is_prefix p q || outside p q} (λ q. or-not_self (is_prefix p q)) (agree_either h j)
