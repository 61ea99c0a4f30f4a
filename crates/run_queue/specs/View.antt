-- Inner: What a `ReadyTable` keeps true of its fields.
use Rattle.std.specs.Prelude.{◌≡◌, ◌+◌, ◌/◌, ◌^◌, ◌≤◌, length, map}
use Rattle.affinity.specs.Interval.{affinity_count}
use Rattle.affinity.specs.declared.geometry.Geometry.{Geometry}
use Rattle.run_queue.specs.ReadyTable.{AreLowerBounds, rank_of}
use Rattle.run_queue.specs.declared.ready_table.ReadyTable.TheInside.{Inside}
use Rattle.run_queue.specs.declared.ready_table.TheConstants.{CHUNK}

pub record IsReadyTable (t : Inside) : Type 0 where
  pub ranked : t.ranks.items ≡ map rank_of t.ready.items
  pub bounds : AreLowerBounds t.ready.items t.least.items
  -- there is an entry for each affinity of any geometry
  pub all : (any : Geometry) → affinity_count any ≤ length t.ready.items
  -- a number has 16 bits
  pub few : length t.ready.items ≤ 2 ^ 16
  pub chunks : length t.least.items ≡ length t.ready.items / CHUNK + 1
