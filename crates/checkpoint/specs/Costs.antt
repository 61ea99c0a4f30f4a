-- Statement for engineers: How many writes and syncs a point and an opening take.
use Rattle.std.specs.Prelude.{ℕ, suc, ◌+◌, ◌/◌, ◌==◌, if◌then◌else◌, Bool, true, false, List, [], ◌∷◌}
use Rattle.affinity.specs.declared.geometry.Geometry.{Geometry}
use Rattle.image.specs.Pieces.{piece_count}
use Rattle.oplog.specs.HalfContent.{chain}
use Rattle.device_map.specs.Layout.{layout_of}
use Rattle.oplog.specs.Recovery.{named_area}

-- how many runs (of adjacent dirty pieces) begin among these; `before`: whether the piece before them is dirty
abbrev pub runs_after : Bool → List Bool → ℕ
runs_after before [] = 0
runs_after before (false ∷ dirty) = runs_after false dirty
runs_after false (true ∷ dirty) = suc (runs_after true dirty)
runs_after true (true ∷ dirty) = runs_after true dirty

-- how many writes the dirty pieces of an image take: those side by side take one
abbrev pub count_runs : List Bool → ℕ
count_runs dirty = runs_after false dirty

-- how many writes and syncs a point takes: two that clear the other half, the writes of dirty pieces, a sync, and two that name the image
abbrev pub point_cost : List Bool → ℕ
point_cost dirty = count_runs dirty + 5

-- the most writes and syncs that a point takes: where every other piece is dirty, from the first one on
abbrev pub longest_point : Geometry → ℕ
longest_point g = (piece_count g + 1) / 2 + 5

-- how many writes and syncs finish a cut in progress, which a chained named half shows: two for the whole image, and two that name it
abbrev pub finish_cost : Geometry → List ℕ → ℕ
finish_cost g c = if chain (layout_of g) (named_area (layout_of g) c) c == 1 then 4 else 0

-- how many writes and syncs an opening takes: a sync, those that finish a cut, and a point of the whole image
abbrev pub opening_cost : Geometry → List ℕ → ℕ
opening_cost g c = finish_cost g c + 7
