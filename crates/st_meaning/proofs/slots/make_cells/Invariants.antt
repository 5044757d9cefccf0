use Rattle.std.proofs.Common.{◌≡◌, ◌++◌, drop, map, length}
use Rattle.rb_base.specs.Names.{name_at}
use Rattle.run_model.specs.Values.{nil_value}
use Rattle.run_model.specs.Eval.{in_cells}
use Rattle.st_meaning.proofs.slots.make_cells.Given as goal

abbrev pub invariant-loop-name : goal.invariant-loop-name
invariant-loop-name l = record {
  slots : l.slots.items ++ in_cells (map (name_at l.names) (drop l.name-index l.temporaries)) (length l.cells.items) ≡ l.initial.slots.items ++ in_cells (map (name_at l.names) l.temporaries) (length l.initial.cells.items);
  cells : l.cells.items ++ map (λ n. nil_value) (map (name_at l.names) (drop l.name-index l.temporaries)) ≡ l.initial.cells.items ++ map (λ n. nil_value) (map (name_at l.names) l.temporaries);
}
