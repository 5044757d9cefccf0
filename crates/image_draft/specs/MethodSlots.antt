-- Methods in slots, of which some are empty, and the table by which they are found.
use Rattle.std.specs.Prelude.{◌≡◌, ℕ, List, length, Bool, false, ◌&&◌, nat_eq, slice_get, if◌then◌else◌, Option, None, Some}
use Rattle.std.specs.Bool.{beq}
use Rattle.std.specs.List.{filter_map}
use Rattle.std.specs.Option.{option_map_or}
use Rattle.std.specs.declared.hash.FoldHasher.{FoldHasher}
use Rattle.std.specs.declared.hash.BuildHasherDefault.{BuildHasherDefault}
use Rattle.std.specs.HashMap.{HashMap, get}
use Rattle.image_draft.specs.declared.method_draft.MethodDraft.{MethodDraft}
use Rattle.image_draft.specs.declared.method_slots.MethodKey.{MethodKey}
use Rattle.image_draft.specs.declared.method_slots.MethodSlots.{MethodSlots}

-- whether two keys are one
abbrev pub same_key : MethodKey → MethodKey → Bool
same_key a b = nat_eq a.class b.class && (beq a.meta b.meta && nat_eq a.selector b.selector)

-- the class, the side and the selector of a method
abbrev pub key_of : MethodDraft → MethodKey
key_of m = record { class = m.class; meta = m.meta; selector = m.tree.selector }

-- places by keys
abbrev pub PlaceTable : Type 0
PlaceTable = HashMap MethodKey ℕ (BuildHasherDefault FoldHasher)

-- the methods that are there
abbrev pub those_there : List (Option MethodDraft) → List MethodDraft
those_there slots = filter_map (λ (o : Option MethodDraft). o) slots

-- a slot, empty where its method is one of a class
abbrev pub without_its : ℕ → Option MethodDraft → Option MethodDraft
without_its class slot = if option_map_or (λ (m : MethodDraft). nat_eq class m.class) slot false then None else slot

-- each method is found by its key at its place, each place that is found has the method of the key, and the methods are counted
pub record KeepsMethods (s : MethodSlots) : Type 0 where
  pub listed : (k : ℕ) (m : MethodDraft) → slice_get s.slots.items k ≡ Some (Some m) → get same_key s.places (key_of m) ≡ Some k
  pub found : (key : MethodKey) (k : ℕ) → get same_key s.places key ≡ Some k → (m : MethodDraft) × (slice_get s.slots.items k ≡ Some (Some m)) × (key_of m ≡ key)
  pub counted : s.count ≡ length (those_there s.slots.items)
