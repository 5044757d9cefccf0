use Rattle.std.proofs.Common.{◌≡◌, ◌++◌, drop, map, slice_get}
use Rattle.std.specs.List.{filter_map}
use Rattle.change_file.specs.declared.differences.Member.TheVariants.{Earlier, Later}
use Rattle.change_file.proofs.differences.members.Given as goal

abbrev pub invariant-loop-place : goal.invariant-loop-place
invariant-loop-place g l = l.found.items ++ map Earlier (filter_map (slice_get l.earlier) (drop l.place-index l.differing)) ≡ map Earlier (filter_map (slice_get l.earlier) l.differing)

abbrev pub invariant-loop-place-2 : goal.invariant-loop-place-2
invariant-loop-place-2 g l =
    l.found.items ++ map Later (filter_map (slice_get l.later) (drop l.place-index l.lone))
    ≡ map Earlier (filter_map (slice_get l.earlier) l.differing) ++ map Later (filter_map (slice_get l.later) l.lone)
