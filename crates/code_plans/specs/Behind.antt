-- The place behind the last method of a class on a side.
use Rattle.std.specs.Prelude.{ℕ, suc, Bool, false, ◌&&◌, nat_eq, if◌then◌else◌, List, [], ◌∷◌, Option, Some, None}
use Rattle.std.specs.Bool.{beq}
use Rattle.std.specs.Option.{option_map_or}
use Rattle.class_table.specs.declared.record.MethodRec.{MethodRec}
use Rattle.class_table.specs.Slots.{Slots}
use Rattle.class_table.specs.View.{entry_of, live_at}
use Rattle.command_model.specs.Hierarchy.{is_method_of}

-- how many items stand up to the last one that passes, if one does
abbrev pub behind_last : {X : Type 0} → (X → Bool) → List X → Option ℕ
behind_last passes [] = None
behind_last passes (x ∷ xs) = option_map_or (λ n. Some (suc n)) (behind_last passes xs) (if passes x then Some 1 else None)

-- whether a slot is live and holds a method of the class on the side
abbrev pub is_beside : Slots → ℕ → Bool → ℕ → Bool
is_beside s c meta k =
    option_map_or (λ (m : MethodRec). is_method_of nat_eq c (entry_of s.classes m) && beq meta m.meta) (live_at s.methods s.method_order k) false
