use Rattle.std.proofs.Common.{◌≡◌, ◌++◌, List, drop}
use Rattle.grammar_model.specs.Checks.{first_repeat}
use Rattle.grammar_model.specs.Spanned.{Declared}
use Rattle.event_checks.specs.Lists.{declared}
use Rattle.event_checks.proofs.duplicates.repeat_among.Given as goal

abbrev pub invariant-loop-declaration : goal.invariant-loop-declaration
invariant-loop-declaration l = (rest : List Declared) →
    first_repeat l.fn.names (declared l.declarations ++ rest) ≡ first_repeat l.names (declared (drop l.declaration-index l.declarations) ++ rest)
