-- What is in the way of the conditions of parts, of messages and of temporaries.
use Rattle.std.specs.Prelude.{ℕ, Bool, List, []}
use Rattle.std.specs.Option.{option_map_or}
use Rattle.image_model.specs.Image.{EntryOf}
use Rattle.class_table.specs.declared.record.ClassRec.{ClassRec}
use Rattle.class_table.specs.Slots.{Slots}
use Rattle.class_table.specs.View.{number_image}
use Rattle.command_model.specs.CodeEffects.{target_of}
use Rattle.command_model.specs.Parts.{Part}
use Rattle.command_model.specs.Places.{SendOf, sent_by}
use Rattle.command_model.specs.Temporaries.{LetOf, let_of}
use Rattle.commands.specs.declared.condition.Condition.{Condition}
use Rattle.commands.specs.declared.condition.Condition.TheVariants as condition
use Rattle.commands.specs.Views.{asked_by}
use Rattle.part_questions.specs.declared.faults.Fault.{Fault}
use Rattle.part_questions.specs.declared.faults.Fault.TheVariants as fault
use Rattle.part_questions.specs.Parts.{part_of}
use Rattle.refusal_witnesses.specs.InlineWitnesses.{not_inlinable, other_actuals, captured, new_control}
use Rattle.refusal_witnesses.specs.TemporaryWitnesses.{further_declarations, no_let, changed_names, new_controls}
use Rattle.refusal_witnesses.specs.PartWitnesses.{no_part, returns_in, outer_assignments, unsteady, used_value, evaluated_before}
use Rattle.refusal_witnesses.specs.Witnesses.{WitnessOf}
use Rattle.part_witnesses.specs.declared.parts.FoundPart.{FoundPart}
use Rattle.part_witnesses.specs.Held.{held_as}

-- a part and its method, as the image has it
abbrev pub found_as : List ClassRec → FoundPart → EntryOf ℕ × Part
found_as classes f = (held_as classes f.method, part_of f.part)

-- the nodes of a part that have a fault
abbrev pub fault_standing : List (List ℕ) → Fault → EntryOf ℕ → Part → List (WitnessOf ℕ)
fault_standing names fault.Return m part = returns_in m part
fault_standing names fault.AssignsOuter m part = outer_assignments (asked_by names) m part
fault_standing names fault.Unsteady m part = unsteady (asked_by names) m part

-- of a condition of a part; nothing of any other condition
abbrev pub part_standing : Slots → Condition → EntryOf ℕ → Part → List (WitnessOf ℕ)
part_standing s (condition.PartIs p) m part = no_part (asked_by s.names) m part
part_standing s (condition.NoReturn p) m part = returns_in m part
part_standing s (condition.AssignsNoOuter p) m part = outer_assignments (asked_by s.names) m part
part_standing s (condition.TempsSteady p) m part = unsteady (asked_by s.names) m part
part_standing s (condition.ValueUnused p) m part = used_value m part
part_standing s (condition.FirstEvaluated p) m part = evaluated_before (asked_by s.names) (number_image s) m part
part_standing s other m part = []

-- of a condition of a message and of the method that it finds, for the class that the command names
abbrev pub target_standing : Slots → (class : ℕ) → Condition → EntryOf ℕ → SendOf ℕ → EntryOf ℕ → List (WitnessOf ℕ)
target_standing s c (condition.Inlinable n) m e target = not_inlinable (asked_by s.names) (number_image s) c m e target
target_standing s c (condition.PlainActuals p) m e target = other_actuals (asked_by s.names) (number_image s) m e target
target_standing s c (condition.NoCapture n spot) m e target = captured (asked_by s.names) (number_image s) m e target
target_standing s c (condition.NoNewControl n spot) m e target = new_control (asked_by s.names) (number_image s) m e target
target_standing s c other m e target = []

-- the same of the message that a part is, and of the method that it finds for a class on a side of it
abbrev pub sent_standing : Slots → (class : ℕ) → Bool → Condition → EntryOf ℕ → Part → List (WitnessOf ℕ)
sent_standing s c meta k m part =
    option_map_or (λ (e : SendOf ℕ). option_map_or (target_standing s c k m e) (target_of (asked_by s.names) (number_image s) c meta e) []) (sent_by m.tree part) []

-- of a condition of the one assignment to a temporary
abbrev pub let_standing : Slots → Condition → ℕ → EntryOf ℕ → LetOf ℕ → List (WitnessOf ℕ)
let_standing s (condition.NoCapture n spot) x m e = changed_names (asked_by s.names) (number_image s) m x e
let_standing s (condition.NoNewControl n spot) x m e = new_controls (asked_by s.names) (number_image s) m x e
let_standing s other x m e = []

abbrev pub assigned_standing : Slots → Condition → ℕ → EntryOf ℕ → List (WitnessOf ℕ)
assigned_standing s c x m = option_map_or (let_standing s c x m) (let_of (asked_by s.names) m.tree x) []

-- of a condition of a temporary
abbrev pub temporary_standing : Slots → Condition → ℕ → EntryOf ℕ → List (WitnessOf ℕ)
temporary_standing s (condition.Declared n y) x m = further_declarations (asked_by s.names) m x
temporary_standing s (condition.LetForm n y) x m = no_let (asked_by s.names) (number_image s) m x
temporary_standing s (condition.NoCapture n spot) x m = assigned_standing s (condition.NoCapture n spot) x m
temporary_standing s (condition.NoNewControl n spot) x m = assigned_standing s (condition.NoNewControl n spot) x m
temporary_standing s other x m = []
