use Rattle.std.proofs.Common.{◌≡◌, ◌++◌, drop}
use Rattle.change_file.specs.Partners.{is_listed, places_from}
use Rattle.change_file.proofs.keys.shared_places.Given as goal

abbrev pub invariant-loop-number : goal.invariant-loop-number
invariant-loop-number l =
    l.places.items ++ places_from l.number (is_listed l.others) (drop l.number l.keys) ≡ places_from 0 (is_listed l.others) l.keys
