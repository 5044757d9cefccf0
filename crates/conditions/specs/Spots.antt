-- Conditions that are asked where code is put.
use Rattle.std.specs.Prelude.{ℕ, Bool, false}
use Rattle.std.specs.Option.{option_map_or}
use Rattle.image_model.specs.Image.{EntryOf}
use Rattle.class_table.specs.Slots.{Slots}
use Rattle.class_table.specs.View.{number_image}
use Rattle.command_model.specs.CodeEffects.{method_at, send_at, target_of}
use Rattle.command_model.specs.Temporaries.{let_of}
use Rattle.commands.specs.Views.{asked_by}
use Rattle.commands.specs.declared.command.MethodName.{MethodName}
use Rattle.commands.specs.declared.condition.Condition.{Condition}
use Rattle.commands.specs.declared.condition.Spot.{Spot}
use Rattle.commands.specs.declared.condition.Spot.TheVariants as spot
use Rattle.code_conditions.specs.Passes.{target_passes, let_passes}

-- whether a condition passes of the message at a place of a method and what it finds, or of the assignment to a temporary
abbrev pub spot_passes : Slots → MethodName → Spot → Condition → Bool
spot_passes s n (spot.Part from to) condition =
    option_map_or (λ e. option_map_or (target_passes s n.class condition e.0 e.1) (target_of (asked_by s.names) (number_image s) n.class n.meta e.1) false)
    (send_at (asked_by s.names) (number_image s) n.class n.meta n.selector from to) false
spot_passes s n (spot.Name x) condition =
    option_map_or (λ (m : EntryOf ℕ). option_map_or (let_passes s x condition m) (let_of (asked_by s.names) m.tree x) false)
    (method_at (asked_by s.names) (number_image s) n.class n.meta n.selector) false
