-- The changes by which a class comes, and classes come under it.
use Rattle.std.specs.Prelude.{ℕ, List, [], ◌∷◌, length, position, unwrap_or, Bool, false, nat_eq, if◌then◌else◌, Option, None, Some, option_map}
use Rattle.std.specs.List.{filter_map}
use Rattle.std.specs.Option.{option_map_or, option_and_then}
use Rattle.scope_model.specs.Scope.{is_among}
use Rattle.class_table.specs.declared.record.ClassRec.{ClassRec}
use Rattle.class_table.specs.declared.record.Slot.TheVariants as slot
use Rattle.class_table.specs.Finding.{named_in}
use Rattle.class_table.specs.Slots.{Slots}
use Rattle.class_table.specs.View.{live_at}
use Rattle.change_set.specs.declared.change.Change.{Change}
use Rattle.change_set.specs.declared.change.Change.TheVariants as change

-- a class of the user without variables, category and comment, under the live class of a name
abbrev pub new_record : Slots → (d p : ℕ) → ClassRec
new_record s d p = record {
  name = d;
  superclass = named_in s.classes s.class_order p;
  instance = [];
  shared = [];
  class_side = [];
  category = [];
  comment = [];
  kernel = false;
}

module _ (s : Slots) (names : List ℕ) where
  -- whether a slot holds a live class of one of the names
  abbrev pub is_one_of : ℕ → Bool
  is_one_of k = option_map_or (λ (c : ClassRec). is_among nat_eq names c.name) (live_at s.classes s.class_order k) false

  -- the place of the first one in the order of the live ones, or the place behind all
  abbrev pub place_before : ℕ
  place_before = unwrap_or (position is_one_of s.class_order) (length s.class_order)

  -- the class in such a slot under the class in the slot id
  abbrev pub record_under : (id k : ℕ) → Option ClassRec
  record_under id k = option_and_then (λ (c : ClassRec). if is_among nat_eq names c.name then Some (record c { superclass = Some id }) else None) (live_at s.classes s.class_order k)

  -- the change by which it comes under that one
  abbrev pub moved_under : (id k : ℕ) → Option Change
  moved_under id k = option_map (change.Class k) (record_under id k)

  -- all changes, where the class that comes stands in the slot id
  abbrev pub class_comes : ℕ → List Change
  class_comes id = change.Live (slot.Class id) (Some place_before) ∷ filter_map (moved_under id) s.class_order
