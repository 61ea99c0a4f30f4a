-- The messages that are held: how many, and what a dispatch and a log step make of them.
use Rattle.std.proofs.Common.{◌≡◌, ℕ, ◌+◌, List, [], ◌∷◌, ◌++◌, ap, sym, ◌∙◌, append_assoc, length}
use Rattle.std.proofs.lemmas.List.{length-append, length-map}
use Rattle.affinity.specs.declared.geometry.Geometry.{Geometry}
use Rattle.histories.specs.CoreState.{Entry, CoreState, entry, entries, held}
use Rattle.histories.specs.Events.{grant, log}
use Rattle.histories.proofs.Entries.{entries_split}

pub length_held : (w : CoreState) → length (held w) ≡ length w.logged + (length w.ran + length w.in_flight)
length_held w = length-append (entries w.logged) (entries w.ran ++ w.in_flight)
    ∙ (λ i. length-map w.logged entry i + (length-append (entries w.ran) w.in_flight ∙ ap (λ n. n + length w.in_flight) (length-map w.ran entry)) i)

pub held_grant : (w : CoreState) (found : Entry × List Entry) → held (grant w found) ≡ held w ++ found.0 ∷ []
held_grant w found = ap (λ l. entries w.logged ++ l) (sym (append_assoc (entries w.ran) w.in_flight (found.0 ∷ [])))
    ∙ sym (append_assoc (entries w.logged) (entries w.ran ++ w.in_flight) (found.0 ∷ []))

-- A log step leaves the list of held messages as it is.
pub log_held : (g : Geometry) (w : CoreState) (n : ℕ) → held (log g w n) ≡ held w
log_held g w n = entries_split w.logged w.ran w.in_flight n
