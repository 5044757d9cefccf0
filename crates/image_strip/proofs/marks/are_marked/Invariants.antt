use Rattle.std.proofs.Common.{◌≡◌, drop}
use Rattle.std.specs.List.{list_all}
use Rattle.image_strip.specs.Reached.{is_marked}
use Rattle.image_strip.proofs.marks.are_marked.Given as goal

abbrev pub invariant-loop-name : goal.invariant-loop-name
invariant-loop-name l = list_all (is_marked l.marks) (drop l.name-index l.names) ≡ list_all (is_marked l.marks) l.names
