use Rattle.std.proofs.Common.{◌≡◌, ◌++◌, drop, map}
use Rattle.std.specs.Prelude.{flat_map}
use Rattle.change_file.specs.Shown.{shown_method}
use Rattle.change_file.proofs.EditTexts.{removal_at}
use Rattle.change_file.proofs.method_edits.write_removals.Given as goal

abbrev pub invariant-loop-item : goal.invariant-loop-item
invariant-loop-item l =
    l.out ++ flat_map (removal_at l.new.keys l.classes) (map shown_method (drop l.item-index l.old.items.items))
    ≡ l.initial.out ++ flat_map (removal_at l.new.keys l.classes) (map shown_method l.old.items.items)
