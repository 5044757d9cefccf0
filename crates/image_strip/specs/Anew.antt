-- Slots made anew: those that were live, in their order, and no others.
use Rattle.std.specs.Prelude.{◌≡◌, ℕ, zero, suc, List, [], ◌∷◌, ◌++◌, length, map, Option, None, Some, slice_get, option_map, unwrap_or}
use Rattle.class_table.specs.declared.record.ClassRec.{ClassRec}
use Rattle.class_table.specs.declared.record.DoIt.{DoIt}
use Rattle.class_table.specs.declared.record.MethodRec.{MethodRec}
use Rattle.class_table.specs.Slots.{Slots}
use Rattle.class_table.specs.Valid.{IsLive}
use Rattle.class_table.specs.View.{live}

-- the numbers below a number
abbrev pub up_to : ℕ → List ℕ
up_to zero = []
up_to (suc n) = up_to n ++ n ∷ []

-- the new slot of the class in a slot
abbrev pub place_in : List ℕ → ℕ → ℕ
place_in places k = unwrap_or (slice_get places k) 0

-- the new slot of each live class is its place in the order
abbrev pub ArePlaces : List ℕ → List ℕ → Type 0
ArePlaces order places = (k : ℕ) → IsLive order k → slice_get order (place_in places k) ≡ Some k

-- a class whose superclass is in its new slot, and a method whose class is
abbrev pub placed_class : List ℕ → ClassRec → ClassRec
placed_class places c = record c { superclass = option_map (place_in places) c.superclass }

abbrev pub placed_method : List ℕ → MethodRec → MethodRec
placed_method places m = record m { class = place_in places m.class }

-- the slots with these classes in place of theirs, each of them live, and with these methods
abbrev pub with_classes : Slots → List ClassRec → Slots
with_classes s classes = record s { classes = classes; class_order = up_to (length classes) }

abbrev pub with_methods : Slots → List MethodRec → Slots
with_methods s methods = record s { methods = methods; method_order = up_to (length methods) }

-- the slots with one class more, one method more, and one do-it more
abbrev pub plus_class : Slots → ClassRec → Slots
plus_class s c = record s { classes = s.classes ++ c ∷ []; class_order = s.class_order ++ length s.classes ∷ [] }

abbrev pub plus_method : Slots → Option MethodRec → Slots
plus_method s None = s
plus_method s (Some m) = record s { methods = s.methods ++ m ∷ []; method_order = s.method_order ++ length s.methods ∷ [] }

abbrev pub plus_doit : Slots → Option DoIt → Slots
plus_doit s None = s
plus_doit s (Some d) = record s { doits = s.doits ++ d ∷ [] }

-- what is live, in slots of its own
abbrev pub anew : Slots → List ℕ → Slots
anew s places = with_methods (with_classes s (map (placed_class places) (live s.classes s.class_order))) (map (placed_method places) (live s.methods s.method_order))

-- slots are what is live in others, in slots of its own and without the names
abbrev pub IsAnew : Slots → Slots → Type 0
IsAnew s t = (places : List ℕ) × ArePlaces s.class_order places × (t ≡ record (anew s places) { names = [] })
