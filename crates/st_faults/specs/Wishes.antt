-- What could stand where a part comes next.
use Rattle.std.specs.Prelude.{◌≡◌, ◌∷◌, Option, Some, None}
use Rattle.grammar_model.specs.declared.wanted.Wanted.{Wanted}
use Rattle.grammar_model.specs.Machine as machine
use Rattle.grammar_model.specs.Machine.{Stack, wish}

-- what is wanted, or what is wanted where the part behind comes next
abbrev pub wanted_or : Option Wanted → Wanted → Wanted
wanted_or None w = w
wanted_or (Some v) w = v

-- this is wanted where the part comes next, or nothing of its own
abbrev pub IsWishOf : Option Wanted → machine.Part → Type 0
IsWishOf o part = (ss : Stack) → wish (part ∷ ss) ≡ wanted_or o (wish ss)
