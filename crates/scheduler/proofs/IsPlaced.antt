-- What is known of a message's kind and numbers, that they are in range and where they belong, holds of the message.
use Rattle.std.proofs.Common.{◌≡◌, ℕ, true, List, sym, subst, ◌∙◌}
use Rattle.affinity.specs.Interval.{Interval, IsAffinityOf}
use Rattle.affinity.specs.Place.{is_in_range as numbers_are_in_range, path_of_kind}
use Rattle.affinity.specs.declared.geometry.Geometry.{Geometry}
use Rattle.affinity.specs.declared.kinds.Kind.{Kind}
use Rattle.protocol.specs.Messages.{four_numbers, is_in_range, kind, path_of}
use Rattle.protocol.specs.declared.messages.Msg.{Msg}

module _ {h g : Geometry} {k : Kind} {n : List ℕ} (m : Msg) where
  pub range_of : h ≡ g → k ≡ kind m → n ≡ four_numbers m → true ≡ numbers_are_in_range h k n → is_in_range g m ≡ true
  range_of same is_kind is_numbers e = sym (e ∙ (λ i. numbers_are_in_range (same i) (is_kind i) (is_numbers i)))

  pub placed_of : (a : Interval) → h ≡ g → k ≡ kind m → n ≡ four_numbers m → IsAffinityOf h (path_of_kind h k n) a → IsAffinityOf g (path_of g m) a
  placed_of a same is_kind is_numbers is =
      subst (λ (x : Geometry). IsAffinityOf x (path_of x m) a) same
      (subst (λ (ns : List ℕ). IsAffinityOf h (path_of_kind h (kind m) ns) a) is_numbers
      (subst (λ (j : Kind). IsAffinityOf h (path_of_kind h j n) a) is_kind is))
