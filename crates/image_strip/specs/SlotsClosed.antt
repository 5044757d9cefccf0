-- What the live slots and the do-its demand, and whether it is marked.
use Rattle.std.specs.Prelude.{ℕ, Bool, true, not, ◌&&◌, ◌||◌, slice_get, if◌then◌else◌}
use Rattle.std.specs.List.{list_all}
use Rattle.std.specs.Option.{option_map_or}
use Rattle.class_table.specs.declared.record.ClassRec.{ClassRec}
use Rattle.class_table.specs.declared.record.MethodRec.{MethodRec}
use Rattle.class_table.specs.declared.record.DoIt.{DoIt}
use Rattle.class_table.specs.Slots.{Slots}
use Rattle.strip_model.specs.Reach.{CodeOf, code_means, code_sends}
use Rattle.image_strip.specs.Code.{method_at, doit_at}
use Rattle.image_strip.specs.Reached.{Marks, is_marked}
use Rattle.image_strip.specs.Stripped.{is_class_marked}

-- of a class: if it is marked its superclass is, and else it is none of the kernel
abbrev pub class_closed : Slots → Marks → ℕ → Bool
class_closed s r k = option_map_or (λ (c : ClassRec).
    if is_marked r.classes c.name then option_map_or (is_class_marked s.classes r.classes) c.superclass true
    else not c.kernel) (slice_get s.classes k) true

-- of code
abbrev pub code_closed : Marks → CodeOf ℕ → Bool
code_closed r c = list_all (is_marked r.classes) (code_means c) && list_all (is_marked r.selectors) (code_sends c)

-- of a do-it
abbrev pub doit_closed : Slots → Marks → DoIt → Bool
doit_closed s r d = code_closed r (doit_at s d.body)

-- whether a method must be marked
abbrev pub is_wanted : Slots → Marks → MethodRec → Bool
is_wanted s r m = m.kernel || (is_class_marked s.classes r.classes m.class && is_marked r.selectors m.tree.selector)

-- of a method: if it is marked its class is, and what its code demands, and else it need not be
abbrev pub method_closed : Slots → Marks → ℕ → Bool
method_closed s r k = option_map_or (λ (m : MethodRec).
    if is_marked r.methods k then is_class_marked s.classes r.classes m.class && code_closed r (method_at s m.class m.meta m.tree)
    else not (is_wanted s r m)) (slice_get s.methods k) true
