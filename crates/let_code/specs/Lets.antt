-- Assignments to temporaries.
use Rattle.std.specs.Prelude.{ℕ}
use Rattle.command_model.specs.Temporaries.{LetOf}
use Rattle.let_code.specs.declared.assignment.Let.{Let}

-- the assignment
abbrev pub let_as : Let → LetOf ℕ
let_as e = record { sequence = e.sequence; number = e.number; value = e.value.now }
