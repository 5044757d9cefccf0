-- What is kept of parts that are looked for.
use Rattle.std.specs.Prelude.{◌≡◌, option_map}
use Rattle.class_table.specs.Slots.{Slots}
use Rattle.class_table.specs.View.{number_image}
use Rattle.command_model.specs.CodeEffects.{part_at}
use Rattle.commands.specs.Views.{asked_by}
use Rattle.part_questions.specs.Parts.{part_of}
use Rattle.part_lookup.specs.declared.kept.KeptPart.{KeptPart}

-- what was found is what the program has at these places
abbrev pub IsKept : Slots → KeptPart → Type 0
IsKept s k =
    option_map part_of k.found
    ≡ option_map (λ e. e.1) (part_at (asked_by s.names) (number_image s) k.sought.method.class k.sought.method.meta k.sought.method.selector k.sought.from k.sought.to)
