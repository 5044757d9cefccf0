-- What marks say is reached of an image.
use Rattle.std.specs.Prelude.{ℕ, ◌+◌, List, [], ◌∷◌, map, filter, Bool, false, if◌then◌else◌, slice_get, unwrap_or}
use Rattle.std.specs.List.{flat_map}
use Rattle.image_model.specs.Image.{EntryOf}
use Rattle.strip_model.specs.Reach.{ReachOf, signatures}
use Rattle.class_table.specs.Slots.{Slots}
use Rattle.class_table.specs.View.{live, entry_of}

-- marks of classes and selectors by the numbers of names, and of methods by the numbers of slots
pub record Marks : Type 0 where
  pub classes : List Bool
  pub selectors : List Bool
  pub methods : List Bool

-- whether a number is marked
abbrev pub is_marked : List Bool → ℕ → Bool
is_marked marks n = unwrap_or (slice_get marks n) false

-- the numbers that are marked, from k on
abbrev pub marked_from : ℕ → List Bool → List ℕ
marked_from k [] = []
marked_from k (b ∷ bs) = if b then k ∷ marked_from (k + 1) bs else marked_from (k + 1) bs

-- the live methods whose slots are marked
abbrev pub marked_methods : Slots → List Bool → List (EntryOf ℕ)
marked_methods s marks = map (entry_of s.classes) (live s.methods (filter (is_marked marks) s.method_order))

-- what is reached
abbrev pub reached : Slots → Marks → ReachOf ℕ
reached s r = record {
  classes = marked_from 0 r.classes;
  selectors = marked_from 0 r.selectors;
  methods = flat_map signatures (marked_methods s r.methods);
}
