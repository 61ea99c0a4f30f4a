-- Where a send broke off: a beginning of the answers that waited was sent.
use Rattle.std.proofs.Common.{arith, ◌≤◌, ◌+◌, ◌-◌, ℕ, Bool, true, false, List, [], ◌++◌, Option, Some, None, refl, ap, sym, ◌∙◌, subst, append_assoc}
use Rattle.std.specs.Io.KnownBytes.{Appends}
use Rattle.std.proofs.KnownBytes.{Appends-nil, Appends-trans}
use Rattle.protocol.proofs.Newlines.{both as newlines-append, newlines}
use Rattle.message.specs.BufferedOutput.{all_output}
use Rattle.message.specs.AppendsBeginning.{AppendsBeginning}
use Rattle.serving.specs.Restart.{WritesBeginning}
use Rattle.serving.specs.SessionInvariant.{IsSent}

pub all_appended : (whole : Option (List ℕ)) (bytes : List ℕ) → Appends whole (all_output whole bytes) bytes
all_appended None bytes = tt
all_appended (Some sent) bytes = refl

pub sent_begins : (b : Bool) (waiting : List ℕ) (whole sent : Option (List ℕ)) → IsSent b waiting whole sent → AppendsBeginning whole sent waiting
sent_begins true waiting whole sent h = h
sent_begins false waiting whole sent h = ([], waiting, refl, subst (λ (w : Option (List ℕ)). Appends whole w []) (sym h) (Appends-nil whole))

-- After what was sent whole, the answers that wait were sent in part: that is a beginning of both.
-- Of n lines whose answers wait, those that end behind that beginning have a slot each, and at least all slots but n are left.
module _ (before whole sent : Option (List ℕ)) (waiting text : List ℕ) (n slots : ℕ) (grown : Appends before whole text) where
  pub written_begins : (b : Bool) → IsSent b waiting whole sent → newlines waiting ≤ n → n ≤ slots
      → (left : ℕ) × WritesBeginning slots left before sent (all_output whole waiting) × (slots ≤ left + n)
  written_begins b h few within =
      let begins = sent_begins b waiting whole sent h in
      let parts = ap (λ (l : List ℕ). newlines l) begins.2 ∙ newlines-append begins.0 begins.1 in (
        slots - newlines begins.1,
        (
          text ++ waiting,
          Appends-trans before whole (all_output whole waiting) text waiting grown (all_appended whole waiting),
          (
            text ++ begins.0,
            begins.1,
            ap (λ (l : List ℕ). text ++ l) begins.2 ∙ sym (append_assoc text begins.0 begins.1),
            Appends-trans before whole sent text begins.0 grown begins.3,
          ),
          omega (arith, parts, few, within),
        ),
        omega (arith, parts, few, within),
      )
