use Rattle.std.proofs.Common.{◌≡◌, ◌++◌, List, take, drop}
use Rattle.grammar_model.specs.Checks.{first_repeat}
use Rattle.grammar_model.specs.Spanned.{Declared}
use Rattle.event_checks.specs.Lists.{declared, names_of}
use Rattle.event_checks.proofs.duplicates.repeat_behind.Given as goal

abbrev pub invariant-loop-index : goal.invariant-loop-index
invariant-loop-index l = (rest : List Declared) →
    first_repeat (names_of l.first) (declared l.second ++ rest) ≡ first_repeat (names_of l.first ++ names_of (take l.index l.second)) (declared (drop l.index l.second) ++ rest)
