-- The four numbers are read one behind the other; where one is missing, the line spells no write.
use Rattle.std.proofs.Common.{◌≡◌, ℕ, List, Option, Some, None, refl, ◌∙◌}
use Rattle.protocol.specs.declared.messages.Msg.{Msg}
use Rattle.protocol.specs.declared.messages.Msg.TheVariants.{Write as write}
use Rattle.protocol.specs.Grammar.{first_number, of_data}
use Rattle.protocol.specs.Words.{words}
use Rattle.message.proofs.GrammarByKind.{onward, onward_some, of_digits, of_digits-told, from_block, from_file, from_volume, from_block-onward, from_file-onward, from_volume-onward, of_data-onward}
use Rattle.message.proofs.heads.head_of_write.Goals as goal

-- where a number is missing, no message is made
onward_none : (k : ℕ → List (List ℕ) → Option Msg) (ws : List (List ℕ)) → first_number ws ≡ None → onward k ws ≡ None
onward_none k ws e = rw e refl

-- behind three numbers, the grammar goes on with the block's
module _ (ws wa wv wf : List (List ℕ)) (a v f : ℕ) where
  up_to_block : first_number ws ≡ Some (a, wa) → first_number wa ≡ Some (v, wv) → first_number wv ≡ Some (f, wf)
      → of_data write ws ≡ onward (λ n. of_digits (write a v f n)) wf
  up_to_block first second third =
      of_data-onward write ws
      ∙ onward_some (λ n. from_volume (write n)) ws a wa first
      ∙ from_volume-onward (write a) wa
      ∙ onward_some (λ n. from_file (write a n)) wa v wv second
      ∙ from_file-onward (write a v) wv
      ∙ onward_some (λ n. from_block (write a v n)) wv f wf third
      ∙ from_block-onward (write a v f) wf

pub returns-in_err-block : goal.returns-in_err-block
returns-in_err-block c =
    let a = c.in_ok-aggregate in
    let v = c.in_ok-volume in
    let f = c.in_ok-file in
    rw c.from_residual-in_err-block.ensures (
    up_to_block (words c.args.line.now) (words a.behind.now) (words v.behind.now) (words f.behind.now) a.aggregate v.volume f.file a.ensures v.ensures f.ensures
    ∙ onward_none (λ n. of_digits (write a.aggregate v.volume f.file n)) (words f.behind.now) c.in_err-block.ensures
    )

pub returns : goal.returns
returns c =
    let a = c.in_ok-aggregate in
    let v = c.in_ok-volume in
    let f = c.in_ok-file in
    let b = c.in_ok-block in
    up_to_block (words c.args.line.now) (words a.behind.now) (words v.behind.now) (words f.behind.now) a.aggregate v.volume f.file a.ensures v.ensures f.ensures
    ∙ onward_some (λ n. of_digits (write a.aggregate v.volume f.file n)) (words f.behind.now) b.block (words b.digits.now) b.ensures
    ∙ of_digits-told (write a.aggregate v.volume f.file b.block) b.digits.now
