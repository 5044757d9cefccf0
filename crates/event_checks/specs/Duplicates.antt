-- Names that events declare twice.
use Rattle.std.specs.Prelude.{ℕ, List, [], ◌∷◌, ◌++◌, Option, None}
use Rattle.std.specs.Option.{option_or}
use Rattle.grammar_model.specs.Checks.{first_repeat}
use Rattle.parse_events.specs.declared.event.Event.{Event}
use Rattle.parse_events.specs.declared.event.Event.TheVariants.{Enter}
use Rattle.event_checks.specs.Lists.{declared}

-- the first name that an event declares twice
abbrev pub repeat_at : Event → Option ℕ
repeat_at (Enter ps ds) = first_repeat [] (declared ps ++ declared ds)
repeat_at e = None

-- the first name that one of the events declares twice
abbrev pub first_duplicate_in : List Event → Option ℕ
first_duplicate_in [] = None
first_duplicate_in (e ∷ es) = option_or (repeat_at e) (first_duplicate_in es)
