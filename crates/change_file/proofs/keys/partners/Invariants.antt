use Rattle.std.proofs.Common.{◌≡◌, ◌≤◌, ◌++◌, drop}
use Rattle.change_file.specs.Partners.{is_listed, partnered}
use Rattle.change_file.proofs.keys.partners.Given as goal

abbrev pub invariant-loop-number : goal.invariant-loop-number
invariant-loop-number l =
    (l.found.items ++ partnered (is_listed l.others) (drop l.number l.keys) (drop l.next l.shared.items) ≡ partnered (is_listed l.others) l.keys l.shared.items)
    × (l.next ≤ l.number)
