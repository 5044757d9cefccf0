use Rattle.std.proofs.Common.{◌≡◌, ◌++◌, not, take, nat_eq, filter}
use Rattle.std.specs.List.{list_any}
use Rattle.reference_index.proofs.fresh.put_gone.Given as goal

abbrev pub invariant-loop-name : goal.invariant-loop-name
invariant-loop-name l =
    l.numbers.items ≡ l.initial.numbers.items ++ filter (λ n. not (list_any (nat_eq n) l.fresh.names)) (take l.name-index l.name-items)
