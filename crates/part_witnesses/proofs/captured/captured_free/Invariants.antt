use Rattle.std.proofs.Common.{◌≡◌, ◌++◌, take}
use Rattle.std.specs.List.{flat_map}
use Rattle.part_witnesses.specs.Sending.{captured_free}
use Rattle.witness_lists.specs.Views.{shown}
use Rattle.part_witnesses.proofs.captured.captured_free.Given as goal

abbrev pub invariant-loop-name : goal.invariant-loop-name
invariant-loop-name l =
    shown l.image l.found.items ≡ shown l.image l.initial.found.items ++ flat_map (captured_free l.image l.sending l.path) (take l.name-index l.names)
