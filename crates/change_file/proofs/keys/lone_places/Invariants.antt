use Rattle.std.proofs.Common.{◌≡◌, ◌++◌, drop, not}
use Rattle.change_file.specs.Partners.{is_listed, places_from}
use Rattle.change_file.proofs.keys.lone_places.Given as goal

abbrev pub invariant-loop-number : goal.invariant-loop-number
invariant-loop-number l =
    l.places.items ++ places_from l.number (λ key. not (is_listed l.others key)) (drop l.number l.keys) ≡ places_from 0 (λ key. not (is_listed l.others key)) l.keys
