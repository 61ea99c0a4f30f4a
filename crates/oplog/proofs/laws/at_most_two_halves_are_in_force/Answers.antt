-- A front has no more records than its half has gates, and the records in force are one front or two.
use Rattle.std.proofs.Common.{ℕ, ◌+◌, ◌*◌, ◌==◌, ◌≤◌, Bool, true, false, if◌then◌else◌, List, ◌++◌, length, drop, arith, length-append}
use Rattle.std.proofs.lemmas.List.{length-take}
use Rattle.device_map.specs.Layout.{Layout, half_part, layout_of, other, part_bytes}
use Rattle.oplog.specs.HalfContent.{chain, count_open, front, gates}
use Rattle.oplog.specs.Recovery.{in_force, named_area}
use Rattle.oplog.proofs.Gates.{open_at_most}
use Rattle.oplog.proofs.RecordRows.{length-rows}
use Rattle.oplog.proofs.laws.at_most_two_halves_are_in_force.Goals as goal

front_in_half : (l : Layout) (h : ℕ) (c : List ℕ) → length (front l h c) ≤ l.capacity
front_in_half l h c =
    let half = part_bytes l (half_part h) c in
    omega (arith, length-rows (count_open (gates l h c)) (drop (64 + l.capacity) half), open_at_most (gates l h c), length-take l.capacity (drop 64 half))

in_two_halves : (l : Layout) (n : ℕ) (c : List ℕ) → length (in_force l n c) ≤ 2 * l.capacity
in_two_halves l n c =
    elim (chain l n c == 1) as (λ (t : Bool). length (if t then front l n c ++ front l (other n) c else front l n c) ≤ 2 * l.capacity) [
      | true ↦ omega (arith, length-append (front l n c) (front l (other n) c), front_in_half l n c, front_in_half l (other n) c)
      | false ↦ omega (arith, front_in_half l n c)
    ]

pub returns-clause-two : goal.returns-clause-two
returns-clause-two c = λ g bytes. in_two_halves (layout_of g) (named_area (layout_of g) bytes) bytes

pub returns-clause-one : goal.returns-clause-one
returns-clause-one c = λ g bytes unchained. rw unchained (front_in_half (layout_of g) (named_area (layout_of g) bytes) bytes)
