-- The image is read and the records of its half are run; a fault is the first in the order of the checks.
use Rattle.std.proofs.Common.{◌≡◌, ◌≤◌, ℕ, ◌==◌, false, List, length, None, Option, Some, sym, ◌∙◌, ap, subst, arith}
use Rattle.oplog.proofs.Results.{err_is}
use Rattle.affinity.specs.declared.geometry.Geometry.{Geometry}
use Rattle.recovery.specs.declared.fault.OpenFault.{OpenFault}
use Rattle.recovery.specs.declared.fault.OpenFault.TheVariants.{BadChain}
use Rattle.recovery.specs.OpenFaults.{IsConsistentFault, IsOfHalf, image_fault, records_fault}
use Rattle.recovery.specs.NamedHolds.{are_both_chained}
use Rattle.recovery.specs.Recovery.{decoding}
use Rattle.recovery.specs.Refusals.{fault_if}
use Rattle.image.specs.Image.{image_state, version_in}
use Rattle.oplog.specs.HalfContent.{chain, front}
use Rattle.device_map.specs.Layout.{device_size, image_part, layout_of, part_bytes}
use Rattle.oplog.specs.Log.{Log}
use Rattle.oplog.specs.Recovery.{named_area, run}
use Rattle.parcel.specs.Tree.{state_in}
use Rattle.recovery.proofs.ReadingCalls.{after, passed_on, returned}
use Rattle.recovery.proofs.Refusals.{chain_half, chain_refused, image_half, image_refused, named_refused, records_half, records_refused}
use Rattle.recovery.proofs.Replays.{same_bytes}
use Rattle.recovery.proofs.loading.load_named.Given.{Over}
use Rattle.recovery.proofs.loading.load_named.Goals.{After-name, In_ok-area, In_ok-chained, In_ok-version}
use Rattle.recovery.proofs.loading.load_named.Goals as goal

-- the area that the device names
names : (g : Over) (c : In_ok-area g) → g.D.Disk.keeps → c.in_ok-area.area ≡ named_area (layout_of c.args.tree.now.geometry) (g.D.Disk.medium c.args.disk.now).now
names g c k = c.in_ok-area.ensures.area k ∙ ap (λ (h : Geometry). named_area (layout_of h) (g.D.Disk.medium c.args.disk.now).now) c.geometry-g.ensures

-- no call changes what a read gives
first : (g : Over) (c : In_ok-area g) → g.D.Disk.keeps → (g.D.Disk.medium c.named_area.new.disk).now ≡ (g.D.Disk.medium c.args.disk.now).now
first g c k = same_bytes (g.D.Disk.medium c.args.disk.now) (g.D.Disk.medium c.named_area.new.disk) (c.named_area.ensures.call.untouched k)

second : (g : Over) (c : In_ok-version g) → g.D.Disk.keeps → (g.D.Disk.medium c.read_image.new.disk).now ≡ (g.D.Disk.medium c.args.disk.now).now
second g c k = same_bytes (g.D.Disk.medium c.args.disk.now) (g.D.Disk.medium c.read_image.new.disk) (c.read_image.ensures.call.untouched k ∙ c.named_area.ensures.call.untouched k)

third : (g : Over) (c : In_ok-chained g) → g.D.Disk.keeps → (g.D.Disk.medium c.chain_of.new.disk).now ≡ (g.D.Disk.medium c.args.disk.now).now
third g c k =
    same_bytes (g.D.Disk.medium c.args.disk.now) (g.D.Disk.medium c.chain_of.new.disk)
    (c.chain_of.ensures.call.untouched k ∙ c.read_image.ensures.call.untouched k ∙ c.named_area.ensures.call.untouched k)

-- the image has no fault, and is that of the state that was read
record IsRead (g : Over) (c : In_ok-version g) : Type 0 where
  sound : image_fault c.args.tree.now.geometry
      (part_bytes (layout_of c.args.tree.now.geometry) (image_part c.in_ok-area.area) (g.D.Disk.medium c.args.disk.now).now) ≡ None
  decoded : image_state c.args.tree.now.geometry
      (part_bytes (layout_of c.args.tree.now.geometry) (image_part c.in_ok-area.area) (g.D.Disk.medium c.args.disk.now).now) ≡ Some (state_in c.read_image.new.tree)

read : (g : Over) (c : In_ok-version g) → g.D.Disk.keeps → IsRead g c
read g c k =
    let geometry = c.args.tree.now.geometry in
    let bytes = ap (part_bytes (layout_of geometry) (image_part c.in_ok-area.area))
    (same_bytes (g.D.Disk.medium c.args.disk.now) (g.D.Disk.medium c.named_area.new.disk) (c.named_area.ensures.call.untouched k)) in
    record {
      sound = sym (ap (image_fault geometry) bytes) ∙ c.in_ok-version.ensures.sound k;
      decoded = sym (ap (image_state geometry) bytes) ∙ c.in_ok-version.ensures.read k;
    }

-- no more than one half is chained
one : (g : Over) (c : In_ok-chained g) → g.D.Disk.keeps → are_both_chained (layout_of c.args.tree.now.geometry) (g.D.Disk.medium c.args.disk.now).now ≡ false
one g c k =
    let bytes = same_bytes (g.D.Disk.medium c.args.disk.now) (g.D.Disk.medium c.read_image.new.disk) (c.read_image.ensures.call.untouched k ∙ c.named_area.ensures.call.untouched k) in
    sym (λ i. are_both_chained (layout_of (c.geometry-g.ensures i)) (bytes i)) ∙ c.in_ok-chained.ensures.sound k

-- the log is that of the tree's geometry
log : (g : Over) (c : After-name g) → c.name.new.self.geometry ≡ c.args.tree.now.geometry
log g c = ap (λ (l : Log). l.geometry) c.name.ensures ∙ ap (λ (l : Log). l.geometry) c.requires.log

pub returns-in_err-version-clause-refused : goal.returns-in_err-version-clause-refused
returns-in_err-version-clause-refused g c =
    rw (err_is c.from_residual-in_err-version.ensures.1) (λ k.
    let here = (goal.at.returns-in_err-version-clause-refused g c).In_ok-area in
    let geometry = c.args.tree.now.geometry in
    image_refused geometry _ (c.requires.header k) c.requires.long_enough c.in_ok-area.area (names g here k) _
    (subst (λ (l : List ℕ). IsConsistentFault (image_fault geometry (part_bytes (layout_of geometry) (image_part c.in_ok-area.area) l)) c.in_err-version.field-0.0) (first g here k)
    (c.in_err-version.ensures.refused k)))

pub returns-in_err-chained-clause-refused : goal.returns-in_err-chained-clause-refused
returns-in_err-chained-clause-refused g c =
    rw (err_is c.from_residual-in_err-chained.ensures.1) (λ k.
    let at = goal.at.returns-in_err-chained-clause-refused g c in
    let bytes = second g at.In_ok-version k in
    chain_refused c.args.tree.now.geometry _ (c.requires.header k) c.requires.long_enough c.in_ok-area.area (names g at.In_ok-area k) (read g at.In_ok-version k).sound _
    (subst (λ (o : Option OpenFault). IsConsistentFault o c.in_err-chained.field-0.0)
    (λ i. fault_if (are_both_chained (layout_of (c.geometry-g.ensures i)) (bytes i)) BadChain None) (c.in_err-chained.ensures.refused k)))

pub returns-in_err-records-clause-refused : goal.returns-in_err-records-clause-refused
returns-in_err-records-clause-refused g c =
    rw (err_is c.from_residual-in_err-records.ensures.1) (λ k.
    let at = goal.at.returns-in_err-records-clause-refused g c in
    let geometry = c.args.tree.now.geometry in
    let bytes = third g at.In_ok-chained k in
    let log = log g at.After-name in
    let state = state_in c.read_image.new.tree in
    let read = read g at.In_ok-version k in
    records_refused geometry _ (c.requires.header k) c.requires.long_enough c.in_ok-area.area (names g at.In_ok-area k) read.sound state read.decoded (one g at.In_ok-chained k) _
    (named_refused geometry state c.in_ok-area.area _ _
    (subst (λ (o : Option OpenFault). IsConsistentFault o c.in_err-records.field-0.0)
    (λ i. records_fault (c.in_ok-version.ensures.geometry i) state c.in_ok-area.area (front (layout_of (log i)) c.in_ok-area.area (bytes i)))
    (c.in_err-records.ensures.refused k))))

pub returns-clause-loaded : goal.returns-clause-loaded
returns-clause-loaded g c = λ k.
    let at = goal.at.returns-clause-loaded g c in
    let bytes = third g at.In_ok-chained k in
    let log = log g at.After-name in
    let state = state_in c.read_image.new.tree in
    record {
      header = c.requires.header k;
      long_enough = c.requires.long_enough;
      named = names g at.In_ok-area k;
      chain = c.in_ok-chained.ensures.chained k ∙ (λ i. chain (layout_of (c.geometry-g.ensures i)) c.in_ok-area.area (second g at.In_ok-version k i) == 1);
      one = one g at.In_ok-chained k;
      sound = (read g at.In_ok-version k).sound;
      first = state;
      decoded = (read g at.In_ok-version k).decoded;
      ran = sym (λ i. run (decoding (c.in_ok-version.ensures.geometry i)) (Some state) (front (layout_of (log i)) c.in_ok-area.area (bytes i))) ∙ c.in_ok-records.ensures.done k;
    }

pub returns-clause-records : goal.returns-clause-records
returns-clause-records g c = λ k.
    let at = goal.at.returns-clause-records g c in
    let bytes = third g at.In_ok-chained k in
    let log = log g at.After-name in
    c.in_ok-records.ensures.count k ∙ (λ i. length (front (layout_of (log i)) c.in_ok-area.area (bytes i)))

pub returns-in_err-version-clause-half : goal.returns-in_err-version-clause-half
returns-in_err-version-clause-half g c =
    rw (err_is c.from_residual-in_err-version.ensures.1) (λ k. image_half _ _ _ _ (c.in_err-version.ensures.refused k))

pub returns-in_err-chained-clause-half : goal.returns-in_err-chained-clause-half
returns-in_err-chained-clause-half g c =
    rw (err_is c.from_residual-in_err-chained.ensures.1) (λ k. chain_half _ _ _ (c.in_err-chained.ensures.refused k))

pub returns-in_err-records-clause-half : goal.returns-in_err-records-clause-half
returns-in_err-records-clause-half g c =
    rw (err_is c.from_residual-in_err-records.ensures.1) (λ k.
    subst (λ (n : ℕ). IsOfHalf n c.in_err-records.field-0.0) (names g (goal.at.returns-in_err-records-clause-half g c).In_ok-area k)
    (records_half c.in_ok-area.area _ _ (c.in_err-records.ensures.refused k)))

pub returns-in_err-area-clause-call : goal.returns-in_err-area-clause-call
returns-in_err-area-clause-call g c = rw (err_is c.from_residual.ensures.1) (passed_on c.in_err-area.ensures.call)

pub read_image-requires-clause-long_enough : goal.read_image-requires-clause-long_enough
read_image-requires-clause-long_enough g c = subst (λ (n : ℕ). device_size (layout_of c.args.tree.now.geometry) ≤ n) (sym c.named_area.ensures.call.len) c.requires.long_enough

pub returns-in_err-version-clause-call : goal.returns-in_err-version-clause-call
returns-in_err-version-clause-call g c =
    rw (err_is c.from_residual-in_err-version.ensures.1) (passed_on (after c.in_ok-area.ensures.call c.in_err-version.ensures.call))

pub chain_of-requires-clause-long_enough : goal.chain_of-requires-clause-long_enough
chain_of-requires-clause-long_enough g c =
    omega (arith, ap (λ (h : Geometry). device_size (layout_of h)) c.geometry-g.ensures, c.read_image.ensures.call.len, c.named_area.ensures.call.len, c.requires.long_enough)

pub returns-in_err-chained-clause-call : goal.returns-in_err-chained-clause-call
returns-in_err-chained-clause-call g c =
    rw (err_is c.from_residual-in_err-chained.ensures.1) (passed_on (after c.in_ok-area.ensures.call (after c.in_ok-version.ensures.call c.in_err-chained.ensures.call)))

pub replay-requires-clause-usable : goal.replay-requires-clause-usable
replay-requires-clause-usable g c =
    let log = log g (goal.at.replay-requires-clause-usable g c).After-name in
    record {
      not_failed = ap (λ (l : Log). l.failed) c.name.ensures ∙ ap (λ (l : Log). l.failed) c.requires.log;
      long_enough = omega (
        arith,
        ap (λ (h : Geometry). device_size (layout_of h)) log,
        c.chain_of.ensures.call.len,
        c.read_image.ensures.call.len,
        c.named_area.ensures.call.len,
        c.requires.long_enough,
      );
    }

pub returns-in_err-records-clause-call : goal.returns-in_err-records-clause-call
returns-in_err-records-clause-call g c =
    rw (err_is c.from_residual-in_err-records.ensures.1)
    (passed_on (after c.in_ok-area.ensures.call (after c.in_ok-version.ensures.call (after c.in_ok-chained.ensures.call c.in_err-records.ensures.call))))

pub returns-clause-version : goal.returns-clause-version
returns-clause-version g c = λ k.
    c.in_ok-version.ensures.version k
    ∙ ap (λ (l : List ℕ). version_in (part_bytes (layout_of c.args.tree.now.geometry) (image_part c.in_ok-area.area) l)) (first g (goal.at.returns-clause-version g c).In_ok-area k)

pub returns-clause-call : goal.returns-clause-call
returns-clause-call g c =
    returned (after c.in_ok-area.ensures.call (after c.in_ok-version.ensures.call (after c.in_ok-chained.ensures.call c.in_ok-records.ensures.call)))
