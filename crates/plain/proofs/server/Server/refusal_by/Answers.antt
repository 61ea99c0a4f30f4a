-- Each kind's checks, in their order, are the tests that are made for it.
use Rattle.std.proofs.Common.{◌≡◌, ℕ, Bool, true, false, cond, List, ◌∷◌, Option, Some, None, ap, refl, sym, ◌∙◌}
use Rattle.std.specs.Prelude.{not, find, slice_index, if◌then◌else◌}
use Rattle.affinity.specs.declared.geometry.Geometry.{Geometry}
use Rattle.affinity.specs.declared.kinds.Kind.{Kind}
use Rattle.affinity.specs.Place.{is_in_range}
use Rattle.protocol.specs.declared.replies.Refusal.{Refusal}
use Rattle.protocol.specs.declared.replies.Refusal.TheVariants.{Range, Volume, Exists, Sealed, File}
use Rattle.meaning.specs.State.{State}
use Rattle.meaning.specs.Refusals.{refusal_by, checks, passes}
use Rattle.plain.specs.Server.{server_state}
use Rattle.plain.proofs.server.Server.refusal_by.Goals as goal

-- where the numbers are in range, the checks after that one decide
past_range : (g : Geometry) (x : State) (ns : List ℕ) {k known : Kind} {rs : List Refusal} {r : Option Refusal} → true ≡ is_in_range g k ns → k ≡ known → checks known ≡ Range ∷ rs
    → r ≡ find (λ test. not (passes g x known ns test)) rs → r ≡ refusal_by g x k ns
past_range g x ns {known} {rs} ranges is all found = found
    ∙ ap (λ t. cond (not t) (Some Range) (find (λ test. not (passes g x known ns test)) rs)) (ranges ∙ ap (λ k. is_in_range g k ns) is)
    ∙ ap (find (λ test. not (passes g x known ns test))) (sym all) ∙ ap (λ k. refusal_by g x k ns) (sym is)

-- two forms of one check
unless : (b : Bool) (why rest : Option Refusal) → (if b then rest else why) ≡ cond (not b) why rest
unless true why rest = refl
unless false why rest = refl

where_so : (b : Bool) (why rest : Option Refusal) → (if b then why else rest) ≡ cond (not (not b)) why rest
where_so true why rest = refl
where_so false why rest = refl

module _ (x : State) (ns : List ℕ) where
  abbrev made : Bool
  made = x.made (slice_index ns 0, slice_index ns 1)

  abbrev sealed : Bool
  sealed = x.sealed (slice_index ns 0, slice_index ns 1)

  abbrev has : Bool
  has = x.files (slice_index ns 0, slice_index ns 1, slice_index ns 2)

  -- the volume is there, and then the rest decides
  in_volume : {rest checked : Option Refusal} → rest ≡ checked → (if made then rest else Some Volume) ≡ cond (not made) (Some Volume) checked
  in_volume {checked} e = ap (λ z. if made then z else Some Volume) e ∙ unless made (Some Volume) checked

  -- the volume is there and isn't sealed, and then the rest decides
  in_open : {rest checked : Option Refusal} → rest ≡ checked
      → (if made then (if sealed then Some Sealed else rest) else Some Volume) ≡ cond (not made) (Some Volume) (cond (not (not sealed)) (Some Sealed) checked)
  in_open {checked} e = in_volume (ap (λ z. if sealed then Some Sealed else z) e ∙ where_so sealed (Some Sealed) checked)

pub returns-in-MakeVol : goal.returns-in-MakeVol
returns-in-MakeVol c =
    let x = server_state c.args.self.now in
    past_range c.args.g.now x c.args.numbers c.if-not-is_in_range.ensures c.in-MakeVol.is refl
    (c.refused_if.ensures ∙ ap (λ b. if b then Some Exists else None) c.has_volume.ensures ∙ where_so (made x c.args.numbers) (Some Exists) None)

pub returns-in-DropVol : goal.returns-in-DropVol
returns-in-DropVol c =
    let x = server_state c.args.self.now in
    past_range c.args.g.now x c.args.numbers c.if-not-is_in_range.ensures c.in-DropVol.is refl
    (c.refusal_unless_open.ensures ∙ in_open x c.args.numbers refl)

pub returns-in-Create : goal.returns-in-Create
returns-in-Create c =
    let x = server_state c.args.self.now in
    past_range c.args.g.now x c.args.numbers c.if-not-is_in_range.ensures c.in-Create.is refl
    (c.refusal_to_create.ensures ∙ in_open x c.args.numbers (where_so (has x c.args.numbers) (Some Exists) None))

pub returns-in-Delete : goal.returns-in-Delete
returns-in-Delete c =
    let x = server_state c.args.self.now in
    past_range c.args.g.now x c.args.numbers c.if-not-is_in_range.ensures c.in-Delete.is refl
    (c.refusal_to_change_file.ensures ∙ in_open x c.args.numbers (unless (has x c.args.numbers) (Some File) None))

pub returns-in-Punch : goal.returns-in-Punch
returns-in-Punch c =
    let x = server_state c.args.self.now in
    past_range c.args.g.now x c.args.numbers c.if-not-is_in_range.ensures c.in-Punch.is refl
    (c.refusal_to_change_file-in-Punch.ensures ∙ in_open x c.args.numbers (unless (has x c.args.numbers) (Some File) None))

pub returns-in-Read : goal.returns-in-Read
returns-in-Read c =
    let x = server_state c.args.self.now in
    past_range c.args.g.now x c.args.numbers c.if-not-is_in_range.ensures c.in-Read.is refl
    (c.refusal_to_read.ensures ∙ in_volume x c.args.numbers (unless (has x c.args.numbers) (Some File) None))
