-- What is asked of the method that a message finds, whose body is to stand in place of the message.
use Rattle.std.specs.Prelude.{ℕ, List, [], ◌∷◌, ◌++◌}
use Rattle.std.specs.Option.{option_map_or}
use Rattle.image_model.specs.Image.{EntryOf}
use Rattle.command_model.specs.Conditions.{AtPart, ConditionOf, Inlinable, PlainActuals, NoCapture, NoNewControl, Shallow}
use Rattle.commands.specs.declared.command.MethodPart.{MethodPart}

-- the conditions of the method that a message of a selector finds, and of what the message passes
abbrev pub found_needs : MethodPart → ℕ → EntryOf ℕ → List (ConditionOf ℕ)
found_needs p t target =
    option_map_or (λ d. Inlinable d target.meta t ∷ []) target.class []
    ++ PlainActuals p.method.class p.method.meta p.method.selector p.from p.to ∷ NoCapture p.method.class p.method.meta p.method.selector (AtPart p.from p.to)
    ∷ NoNewControl p.method.class p.method.meta p.method.selector (AtPart p.from p.to) ∷ Shallow ∷ []
