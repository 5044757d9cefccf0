use Rattle.std.proofs.Common.{◌≡◌, drop, map}
use Rattle.std.specs.List.{list_any}
use Rattle.rb_base.specs.Names.{text_eq, name_at}
use Rattle.st_program.proofs.variables.is_among.Given as goal

abbrev pub invariant-loop-id : goal.invariant-loop-id
invariant-loop-id l = list_any (text_eq l.text) (map (name_at l.names) (drop l.id-index l.id-items)) ≡ list_any (text_eq l.text) (map (name_at l.names) l.id-items)
