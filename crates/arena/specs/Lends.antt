-- Statement for engineers: What an `Arena` is once a returned `&mut` into it ends (the library's `Lends`, not `Arena::lend`).
use Rattle.std.specs.Prelude.{ℕ, Option}
use Rattle.std.specs.Borrow.{LendsIf, Fml, RattleType, MutBor}
use Rattle.arena.specs.ArenaView.{ArenaView, with_value}
use Rattle.arena.specs.contracts.arena.Arena.{the_row}

module _ (T : RattleType) (arena : MutBor (ArenaView T.Denot)) (i : ℕ) where
  -- once the borrow ends, the slot holds the last value that was written through it; at `None` nothing was borrowed, and the arena stays as
  -- it is
  abbrev pub lends_get : Option (MutBor T.Denot) → Fml
  lends_get r = LendsIf (the_row T) T arena r (with_value arena.now i) arena.now
