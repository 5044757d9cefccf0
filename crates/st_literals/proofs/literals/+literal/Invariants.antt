use Rattle.std.proofs.Common.{◌≡◌, drop}
use Rattle.tree_model.specs.Tree.{literals_of}
use Rattle.tree_model.specs.Measure.{literal_weight, literals_weight}
use Rattle.run_model.specs.Acts.{acts}
use Rattle.run_model.specs.Eval.{literal_values}
use Rattle.st_meaning.specs.StoreView.{store_of}
use Rattle.st_literals.specs.Given.{literals_at}
use Rattle.st_literals.proofs.Items.{left}
use Rattle.st_literals.proofs.literals.+literal.Given as goal

abbrev pub decreases-literal : goal.decreases-literal
decreases-literal l = literal_weight l.literal.now

abbrev pub decreases-literals : goal.decreases-literals
decreases-literals l = literals_weight (literals_of l.items.now)

abbrev pub invariant-literals-loop-item : goal.invariant-literals-loop-item
invariant-literals-loop-item l = record {
  left : left l.names l.values (drop l.item-index l.items) (store_of l.names l.store) ≡ literal_values acts (literals_at l.names l.items) (store_of l.names l.initial.store);
  ticks : l.store.ticks ≡ l.initial.store.ticks;
}
