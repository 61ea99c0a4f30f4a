-- A half is ready for an append if its front has `used` records, the gates behind it are 0, and nothing in it is unsynced. It stays
-- ready while other parts of the device change. A half that was cleared is ready once it is put in force or named.
use Rattle.std.proofs.Common.{◌≡◌, ◌≢◌, ◌<◌, ◌≤◌, ℕ, Bool, true, false, cond, List, length, drop, sym, ◌∙◌, ap, subst, arith}
use Rattle.std.proofs.lemmas.Bool.{eq-eqb}
use Rattle.disk.specs.Device.{Medium, IsSynced}
use Rattle.disk.proofs.IsSynced.{synced_range}
use Rattle.device_map.specs.Layout.{Layout, layout_of, part_at, part_size, half_part, other, device_size}
use Rattle.oplog.specs.HalfContent.{count_open, gates_in}
use Rattle.oplog.specs.Changes.{IsSameBut, IsReady, Cleared, Chained, Flipped}
use Rattle.oplog.specs.Log.{Log, chained, flipped}
use Rattle.disk.specs.Store.{TouchesOnly}
use Rattle.oplog.proofs.PartLemmas.{LiesIn, half_sized, half_inside, other_part}

pub ready_kept : {g : Layout} {h k p : ℕ} {w w' : Medium} → h < 2 → half_part h ≢ p → device_size g ≤ length w'.now → IsReady g h k w
    → IsSameBut g p w.now w'.now → IsSynced w' → IsReady g h k w'
ready_kept {g} {h} {k} {w'} is_half apart fits ready same synced =
    let kept = same.others (half_part h) apart in
    record {
      used = ap (λ (l : List ℕ). count_open (gates_in g.capacity l)) kept ∙ ready.used;
      shut = ap (λ (l : List ℕ). drop k (gates_in g.capacity l)) kept ∙ ready.shut;
      synced = synced_range (part_at g (half_part h)) (part_size g (half_part h)) w' synced (omega (arith, fits, half_sized g h is_half, half_inside g h is_half));
    }

-- A half stays ready while a range of another part is written, synced or not.
pub ready_beside : {g : Layout} {h k p i n at : ℕ} {w w' : Medium} → half_part h ≢ p → LiesIn g p i n at → TouchesOnly at n w w' → IsReady g h k w → IsReady g h k w'
ready_beside {g} {h} {k} apart lies wrote ready =
    let kept = other_part (half_part h) lies apart wrote.now in
    record {
      used = ap (λ (l : List ℕ). count_open (gates_in g.capacity l)) kept ∙ ready.used;
      shut = ap (λ (l : List ℕ). drop k (gates_in g.capacity l)) kept ∙ ready.shut;
      synced = other_part (half_part h) lies apart wrote.unsynced ∙ ready.synced;
    }

-- The other half was cleared, and then the chain byte of the named one was set to 1: the other half is current, and ready.
pub ready_chained : (log : Log) {cleared opened : Log} {w0 w1 w2 : Medium} → log.named < 2 → cleared ≡ record log { cleared = true } → opened
    ≡ chained cleared → device_size (layout_of log.geometry) ≤ length w2.now → Cleared (layout_of log.geometry) (other log.named) w0 w1
    → Chained (layout_of cleared.geometry) cleared.named w1 w2 → IsReady (layout_of opened.geometry) opened.current opened.used w2
ready_chained log {opened} {w1} {w2} is_half first second fits clear chain =
    let is : opened ≡ chained (record log { cleared = true }) = second ∙ ap chained first in
    let chain' : Chained (layout_of log.geometry) log.named w1 w2 = subst (λ (x : Log). Chained (layout_of x.geometry) x.named w1 w2) first chain in
    subst (λ (x : Log). IsReady (layout_of x.geometry) x.current x.used w2) (sym is)
    (ready_kept (omega arith) (λ same. omega (arith, same, is_half)) fits clear.ready chain'.same.same chain'.synced)

-- The named half was the current one, the other half was cleared, and then that one was named: it is current, and ready.
pub ready_named : (log : Log) {cleared named : Log} {w0 w1 w2 : Medium} → log.current ≡ log.named → cleared ≡ record log { cleared = true } → named
    ≡ flipped cleared → device_size (layout_of log.geometry) ≤ length w2.now → Cleared (layout_of log.geometry) (other log.named) w0 w1
    → Flipped (layout_of cleared.geometry) (other cleared.named) w1 w2 → IsReady (layout_of named.geometry) named.current named.used w2
ready_named log {named} {w1} {w2} current_is_named first second fits clear flip =
    let follows : flipped (record log { cleared = true }) ≡ record log { named = other log.named; current = other log.named; used = 0; cleared = false } =
    ap (λ (t : Bool). cond t (record log { named = other log.named; current = other log.named; used = 0; cleared = false })
    (record log { named = other log.named; cleared = false })) (eq-eqb log.current log.named current_is_named) in
    let is : named ≡ record log { named = other log.named; current = other log.named; used = 0; cleared = false } = second ∙ ap flipped first ∙ follows in
    let flip' : Flipped (layout_of log.geometry) (other log.named) w1 w2 = subst (λ (x : Log). Flipped (layout_of x.geometry) (other x.named) w1 w2) first flip in
    subst (λ (x : Log). IsReady (layout_of x.geometry) x.current x.used w2) (sym is)
    (ready_kept (omega arith) (λ same. omega (arith, same)) fits clear.ready flip'.same.same flip'.synced)
