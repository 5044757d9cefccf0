use Rattle.std.proofs.Common.{◌≡◌, Some, map, take, slice_get}
use Rattle.event_trees.specs.Stacks.{declared_by}
use Rattle.event_trees.specs.Naming.{Adds, AllPass}
use Rattle.event_trees.proofs.naming.numbers_of.Given as goal

abbrev pub invariant-loop-declaration : goal.invariant-loop-declaration
invariant-loop-declaration l = record {
  numbers : map (slice_get l.names) l.ids ≡ declared_by (λ t. Some t) (take l.declaration-index l.declarations);
  adds : Adds l.initial.names l.names (AllPass (declared_by (λ t. t) (take l.declaration-index l.declarations)));
}
