use Rattle.std.proofs.Common.{◌≡◌, map, take}
use Rattle.temporary_code.specs.Naming.{new_name}
use Rattle.temporary_code.proofs.naming.Naming.declared_after.Given as goal

abbrev pub invariant-loop-name : goal.invariant-loop-name
invariant-loop-name l = l.found ≡ map (new_name l.self.variable l.self.to) (take l.name-index l.name-items)
