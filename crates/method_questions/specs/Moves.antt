-- Which method each class finds once a method has moved.
use Rattle.std.specs.Prelude.{◌≡◌, ℕ, List, [], ◌∷◌, length, find, Bool, true, false, ◌&&◌, ◌||◌, not, if◌then◌else◌, nat_eq, Option, Some, None, is_some}
use Rattle.std.specs.Bool.{beq}
use Rattle.std.specs.List.{list_any}
use Rattle.std.specs.Option.{option_map, option_and_then, option_map_or, option_or}
use Rattle.image_model.specs.Image.{EntryOf}
use Rattle.image_model.specs.Words.{number_words}
use Rattle.image_model.specs.Upwards.{upwards, first_given}
use Rattle.class_table.specs.declared.record.ClassRec.{ClassRec}
use Rattle.class_table.specs.declared.record.MethodRec.{MethodRec}
use Rattle.class_table.specs.declared.record.Place.{Place}
use Rattle.class_table.specs.declared.record.Place.TheVariants as place
use Rattle.class_table.specs.Slots.{Slots}
use Rattle.class_table.specs.View.{live_at, number_image}
use Rattle.class_table.specs.Valid.{IsLive}
use Rattle.class_table.specs.Finding.{on_chain_at}
use Rattle.class_table.specs.Finding as finding
use Rattle.command_model.specs.SameMethods.{is_same_found}
use Rattle.commands.specs.Views.{asked_by}
use Rattle.method_questions.specs.declared.moves.Way.{Way}
use Rattle.method_questions.specs.declared.moves.Way.TheVariants as way
use Rattle.method_questions.specs.declared.moves.Moved.{Moved}
use Rattle.method_questions.specs.declared.moves.After.{After}
use Rattle.method_questions.specs.declared.moves.After.TheVariants as after
use Rattle.method_questions.specs.Found.{as_entry, opened_at, own_slot, object_slot}

-- what is found in a slot, if there is one
abbrev pub there : Option ℕ → Option After
there o = option_map (λ k. after.There k) o

-- whether a slot stands before another one in an order, if there is another
abbrev pub comes_first : List ℕ → ℕ → Option ℕ → Bool
comes_first order slot o = option_map_or (λ other. option_map_or (λ k. nat_eq k slot) (find (λ k. nat_eq k slot || nat_eq k other) order) false) o true

-- whether a class is a direct subclass of another
abbrev pub is_below : Slots → ℕ → ℕ → Bool
is_below s class other = option_map_or (λ (c : ClassRec). option_map_or (nat_eq other) c.superclass false) (live_at s.classes s.class_order class) false

-- whether a class itself may have another method afterwards: it loses or gets the one that moves
abbrev pub is_changed_by : Slots → ℕ → Way → ℕ → Bool
is_changed_by s class way.New k = nat_eq k class
is_changed_by s class (way.Up above first) k = nat_eq k class || nat_eq k above
is_changed_by s class way.Down k = nat_eq k class || is_below s k class

unfoldable pub is_changed : Slots → Moved → ℕ → Bool
is_changed s v k = is_changed_by s v.method.class v.way k

-- whether a class or one above it may
abbrev pub is_concerned : Slots → Moved → ℕ → Bool
is_concerned s v class = list_any (is_changed s v) (upwards (λ k. on_chain_at s.classes s.class_order k 1) (length s.class_order) (Some class))

-- the class of the method at a place, if it is a live one for a selector on a side
abbrev pub owner_at : Slots → Bool → ℕ → Place → Option ℕ
owner_at s meta selector (place.Method k) =
    option_and_then (λ (m : MethodRec). if beq m.meta meta && nat_eq m.tree.selector selector then Some m.class else None) (live_at s.methods s.method_order k)
owner_at s meta selector (place.DoIt n) = None

-- each of the classes has a method of its own for the selector on the side of the one that moves
abbrev pub AreOwners : Slots → Moved → List ℕ → Type 0
AreOwners s v owners = (k : ℕ) → list_any (nat_eq k) owners ≡ true → is_some (own_slot s k v.method.meta v.selector) ≡ true

-- whether one of the owners comes before each that may have another method
abbrev pub covered_in : Slots → Moved → List ℕ → List ℕ → Bool
covered_in s v owners [] = false
covered_in s v owners (k ∷ ks) = not (is_changed s v k) && (list_any (nat_eq k) owners || covered_in s v owners ks)

-- the same from a class upwards
abbrev pub is_covered : Slots → Moved → List ℕ → ℕ → Bool
is_covered s v owners class = covered_in s v owners (upwards (λ k. on_chain_at s.classes s.class_order k 1) (length s.class_order) (Some class))

-- the method that a class itself has afterwards, from the one that it has before
abbrev pub own_by : Slots → ℕ → Way → ℕ → Option After → Option After
own_by s class way.New k own = option_or own (if nat_eq k class then Some (after.Comes k) else None)
own_by s class (way.Up above first) k own = if nat_eq k above then (if first then Some (after.Comes k) else own) else if nat_eq k class then None else own
own_by s class way.Down k own = if nat_eq k class then None else option_or own (if is_below s k class then Some (after.Comes k) else None)

-- the same, from the slots
unfoldable pub own_after : Slots → Moved → ℕ → Option After
own_after s v k = own_by s v.method.class v.way k (there (own_slot s k v.method.meta v.selector))

-- the one that it or the nearest class above it has
abbrev pub first_after : Slots → Moved → ℕ → Option After
first_after s v class = first_given (own_after s v) (upwards (λ k. on_chain_at s.classes s.class_order k 1) (length s.class_order) (Some class))

-- the one that a message runs
abbrev pub found_after : Slots → Moved → ℕ → Option After
found_after s v class = option_or (first_after s v class) (if v.method.meta then there (object_slot s v.selector) else None)

-- the method that is found
abbrev pub after_entry : Slots → Moved → After → Option (EntryOf ℕ)
after_entry s v (after.There k) = opened_at s k
after_entry s v (after.Comes k) = Some (as_entry s.classes (record v.method { class = k }))

-- whether a class finds another one than before, or finds one before or afterwards alone
unfoldable pub finds_another : Slots → Moved → ℕ → Bool
finds_another s v k =
    not (is_same_found (number_words s.names) (asked_by s.names).is_super (number_image s) (number_image s)
    (option_and_then (opened_at s) (finding.found_by_lookup s k v.method.meta v.selector)) (option_and_then (after_entry s v) (found_after s v k)))

-- the class of which it is found to be one is live
abbrev pub IsLiveAfter : Slots → After → Type 0
IsLiveAfter s (after.There k) = Unit {0}
IsLiveAfter s (after.Comes k) = IsLive s.class_order k
