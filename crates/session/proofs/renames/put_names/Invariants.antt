use Rattle.std.proofs.Common.{◌≡◌, ◌++◌, take}
use Rattle.std.specs.Prelude.{flat_map}
use Rattle.session.specs.Called.{class_named, selector_named}
use Rattle.session.proofs.renames.put_names.Given as goal

abbrev pub invariant-loop-command : goal.invariant-loop-command
invariant-loop-command l = record {
  classes : l.classes.items ≡ l.fn.classes.items ++ flat_map class_named (take l.command-index l.commands);
  selectors : l.selectors.items ≡ l.fn.selectors.items ++ flat_map selector_named (take l.command-index l.commands);
}
