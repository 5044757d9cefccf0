use Rattle.std.proofs.Common.{◌≡◌, ◌++◌, drop}
use Rattle.use_index.specs.Found.{found_in_row}
use Rattle.use_index.proofs.found.put_row.Given as goal

abbrev pub invariant-loop-one : goal.invariant-loop-one
invariant-loop-one l =
    l.found.items ++ found_in_row l.name l.what l.owner (drop l.one-index l.row) ≡ l.initial.found.items ++ found_in_row l.name l.what l.owner l.row
