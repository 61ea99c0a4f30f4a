-- A line is buffered exactly if a newline is.
use Rattle.std.proofs.Common.{ℕ, ap, sym, ◌∙◌}
use Rattle.std.specs.Prelude.{◌==◌}
use Rattle.std.proofs.lemmas.Bool.{eq-eqb, eqb-true}
use Rattle.std.proofs.lemmas.List.Folds.{list_any_at}
use Rattle.std.proofs.lemmas.Map.Views.{Contains-from_any}
use Rattle.message.specs.Reader.{buffered_bytes}
use Rattle.serving.specs.Session.{SessionView}
use Rattle.serving.proofs.session.Session.holds_line.Goals as goal

pub returns : goal.returns
returns g c =
    let bytes = buffered_bytes c.self.inside.line_reader.buffered in
    let same = ap (λ (p : SessionView). p.holds_line) c.self.view_is in (
      (λ is.
          let line = c.holds_line.ensures.0 is in
          sym same ∙ list_any_at (λ b. b == 10) bytes line.0 10 line.1 (eq-eqb _ 10 line.2)),
      (λ is. c.holds_line.ensures.1 (Contains-from_any {eq = λ (x y : ℕ). y == x} (λ x y e. sym (eqb-true y x e)) 10 bytes (same ∙ is))),
    )
