-- From question to question the tree stays whole, and keeps its geometry.
use Rattle.std.proofs.Common.{◌≡◌}
use Rattle.parcel.specs.Tree.{IsWholeTree}
use Rattle.harness.proofs.expected_answers.reply_lines.Given as goal

abbrev pub invariant-loop-m : goal.invariant-loop-m
invariant-loop-m l = record {
  whole : IsWholeTree l.tree;
  geometry : l.tree.geometry ≡ l.initial.tree.geometry;
}
