-- A call of `write` takes from the front of `rest` what it appends; one that was interrupted leaves the bytes.
use Rattle.std.proofs.Common.{arith, ◌≡◌, ℕ, ◌-◌, List, ◌++◌, length, take, drop, sym, ap, ◌∙◌, Bor}
use Rattle.std.proofs.lemmas.Grind.{common_steps}
use Rattle.std.proofs.KnownBytes.{Appends-kept, Appends-trans}
use Rattle.message.proofs.writing.write_in_order.Goals as goal
use Rattle.message.proofs.writing.write_in_order.Goals.{in-Ok, in-Err+else-ne}

moves_front : (all done rest : List ℕ) (n : ℕ) → all ≡ done ++ rest → all ≡ (done ++ take n rest) ++ take (length rest - n) (drop n rest)
moves_front all done rest n e = grind (arith, common_steps)

pub loop-preserved : goal.loop-preserved
loop-preserved g c =
    let (done, split, appended) = c.loop.invariant in
    let rest = c.loop.rest.now in
    elim c.match-write.branch [
      | in-Ok w ↦ (
        done ++ take w.in-Ok.n rest,
        moves_front _ done rest w.in-Ok.n split ∙ ap (λ (b : Bor (List ℕ)). (done ++ take w.in-Ok.n rest) ++ b.now) (sym w.rest-is),
        Appends-trans _ _ _ _ _ appended w.in-Ok.ensures.bytes,
      )
      | in-Err+else-ne w ↦
          (done, split ∙ ap (λ (b : Bor (List ℕ)). done ++ b.now) (sym w.rest-is), Appends-kept _ _ _ done appended w.in-Err.ensures.bytes)
    ]
