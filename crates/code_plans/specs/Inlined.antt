-- Methods in which the body of the method that a message finds stands in place of it.
use Rattle.std.specs.Prelude.{ℕ, Bool, Option}
use Rattle.std.specs.Option.{option_and_then}
use Rattle.tree_model.specs.Tree.{MethodOf}
use Rattle.image_model.specs.Image.{EntryOf}
use Rattle.class_table.specs.Slots.{Slots}
use Rattle.class_table.specs.View.{number_image}
use Rattle.command_model.specs.CodeEffects.{target_of}
use Rattle.command_model.specs.Inlined.{tree_inlined}
use Rattle.command_model.specs.Parts.{Part}
use Rattle.command_model.specs.Places.{SendOf, sent_by}
use Rattle.commands.specs.Views.{asked_by}

-- such a method, for the message that a part of it is, where it is found from a class on a side
abbrev pub inlined_at : Slots → ℕ → Bool → MethodOf ℕ → Part → Option (MethodOf ℕ)
inlined_at s c meta m part =
    option_and_then (λ (e : SendOf ℕ). option_and_then (λ (target : EntryOf ℕ). tree_inlined (asked_by s.names) m e target.tree) (target_of (asked_by s.names) (number_image s) c meta e)) (sent_by m part)
