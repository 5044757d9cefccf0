-- The reads of an argument in the method of a slot.
use Rattle.std.specs.Prelude.{ℕ, List, []}
use Rattle.std.specs.Option.{option_map_or}
use Rattle.class_table.specs.declared.record.MethodRec.{MethodRec}
use Rattle.class_table.specs.Slots.{Slots}
use Rattle.class_table.specs.View.{entry_of, live_at, number_image}
use Rattle.commands.specs.Views.{asked_by}
use Rattle.refusal_witnesses.specs.ParameterWitnesses.{argument_reads_in}
use Rattle.refusal_witnesses.specs.Witnesses.{WitnessOf}

-- those in the method of a slot, if the slot is live
abbrev pub slot_reads : Slots → (selector argument slot : ℕ) → List (WitnessOf ℕ)
slot_reads s selector argument slot =
    option_map_or (λ (m : MethodRec). argument_reads_in (asked_by s.names) (number_image s) selector argument (entry_of s.classes m)) (live_at s.methods s.method_order slot) []
