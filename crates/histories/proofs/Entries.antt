-- The messages of a history as entries, and those of which the log keeps a record.
use Rattle.std.proofs.Common.{[], ◌≡◌, ℕ, true, false, List, ◌∷◌, ◌++◌, refl, ap, sym, ◌∙◌, append_assoc, take, drop}
use Rattle.std.proofs.lemmas.List.{take-append-drop, map-append}
use Rattle.std.proofs.lemmas.List.Elements.{filter-append}
use Rattle.std.specs.Prelude.{cond, filter, map}
use Rattle.std.specs.List.{AllByRecursion}
use Rattle.protocol.specs.declared.messages.Msg.{Msg}
use Rattle.meaning.specs.Step.{is_recorded}
use Rattle.histories.specs.CoreState.{Entry, Replied, entry, entries}
use Rattle.histories.specs.Events.{recorded}

pub entries-append : (as' bs : List Replied) → entries (as' ++ bs) ≡ entries as' ++ entries bs
entries-append [] bs = refl
entries-append (a ∷ as') bs = ap (λ l. entry a ∷ l) (entries-append as' bs)

pub all_entries : (P : Entry → Type 0) (as' : List Replied) → AllByRecursion P (entries as') → AllByRecursion (λ a. P (entry a)) as'
all_entries P [] h = tt
all_entries P (a ∷ as') h = (h.0, all_entries P as' h.1)

-- what holds of each message that has a record holds of all recorded ones
pub all_recorded : (P : Msg → Type 0) (as' : List Replied) → AllByRecursion (λ a. is_recorded a.1 a.2 ≡ true → P a.1) as' → AllByRecursion P (recorded as')
all_recorded P [] h = tt
all_recorded P (a ∷ as') h =
    let k = all_recorded P as' h.1 in
    elim (is_recorded a.1 a.2) as (λ b. is_recorded a.1 a.2 ≡ b → AllByRecursion P (map (λ (a : Replied). a.1)
    (cond b (a ∷ filter (λ a. is_recorded a.1 a.2) as') (filter (λ a. is_recorded a.1 a.2) as')))) [ true ↦ λ e. (h.0 e, k) | false ↦ λ e. k ] refl

-- The first n of those that ran may stand behind those that come before, or first among those that ran.
pub entries_split : (past ran : List Replied) (rest : List Entry) (n : ℕ)
    → entries (past ++ take n ran) ++ (entries (drop n ran) ++ rest) ≡ entries past ++ (entries ran ++ rest)
entries_split past ran rest n =
    ap (λ l. l ++ (entries (drop n ran) ++ rest)) (entries-append past (take n ran))
    ∙ append_assoc (entries past) (entries (take n ran)) _
    ∙ ap (λ l. entries past ++ l) (sym (append_assoc (entries (take n ran)) (entries (drop n ran)) rest)
    ∙ ap (λ l. l ++ rest) (sym (entries-append (take n ran) (drop n ran)) ∙ ap entries (take-append-drop n ran)))

pub recorded-append : (as' bs : List Replied) → recorded (as' ++ bs) ≡ recorded as' ++ recorded bs
recorded-append as' bs = ap (map (λ (a : Replied). a.1)) (filter-append (λ (a : Replied). is_recorded a.1 a.2) as' bs)
    ∙ map-append (λ (a : Replied). a.1) (filter (λ (a : Replied). is_recorded a.1 a.2) as') (filter
    (λ (a : Replied). is_recorded a.1 a.2) bs)
