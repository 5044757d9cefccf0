use Rattle.std.proofs.Common.{◌≡◌, ◌++◌, drop}
use Rattle.std.specs.List.{flat_map, enumerate_from}
use Rattle.class_table.specs.declared.record.Place.TheVariants as place
use Rattle.use_index.specs.declared.found.Owner.TheVariants as owner
use Rattle.use_index.specs.Found.{found_in_row, found_in_methods}
use Rattle.use_index.specs.Rows.{used_of}
use Rattle.use_index.proofs.found.put_methods.Given as goal

abbrev pub invariant-loop-number : goal.invariant-loop-number
invariant-loop-number l =
    l.found.items ++ flat_map (λ e. found_in_row l.name l.what (owner.Method e.0) (used_of l.index.uses (place.Method e.1))) (enumerate_from l.number (drop l.number l.methods))
    ≡ l.initial.found.items ++ found_in_methods l.index l.name l.what l.methods
