use Rattle.std.proofs.Common.{◌≡◌, ◌≤◌, ℕ, suc, drop, length, map}
use Rattle.tree_model.specs.Tree.{TreeOf}
use Rattle.st_tree.specs.View.{sequence_of}
use Rattle.event_trees.specs.Naming.{Grows}
use Rattle.certified_model.specs.Certificates.{stuck_from}
use Rattle.certificates.specs.Shown.{step_shown}
use Rattle.derivations.specs.Numbered.{table_of}
use Rattle.derivations.specs.Taken.{only, marks_of, AreKnown}
use Rattle.derivations.proofs.Stuck.{IsReached}
use Rattle.derivations.proofs.steps.stuck_in.Given as goal

abbrev pub invariant-loop-index : goal.invariant-loop-index
invariant-loop-index l = record {
  reached : (t : TreeOf ℕ) → sequence_of l.initial.tree ≡ only t → AreKnown l.initial.names t → AreKnown l.initial.names l.last
      → IsReached l.names (table_of l.marks) (suc l.index) (map step_shown (drop l.index l.steps)) l.last (sequence_of l.tree)
      (stuck_from 1 (map step_shown l.steps) (marks_of l.initial.names (table_of l.marks) l.last) (marks_of l.initial.names (table_of l.marks) t));
  grows : Grows l.initial.names l.names;
  within : l.index ≤ length l.steps;
}
