-- The tables by which the places of classes and of methods are found.
use Rattle.std.specs.Prelude.{◌≡◌, ℕ, List, find, reverse, Bool, ◌&&◌, nat_eq}
use Rattle.std.specs.Bool.{beq}
use Rattle.std.specs.Option.{option_map}
use Rattle.std.specs.declared.hash.FoldHasher.{FoldHasher}
use Rattle.std.specs.declared.hash.BuildHasherDefault.{BuildHasherDefault}
use Rattle.std.specs.HashMap.{HashMap, get}
use Rattle.file_model.specs.Places.{ClassPlaceOf, MethodPlaceOf}
use Rattle.image_draft.specs.declared.method_draft.MethodDraft.{MethodDraft}
use Rattle.draft_orders.specs.declared.methods.PlaceKey.{PlaceKey}

-- places by the names of classes
abbrev pub ClassTable : Type 0
ClassTable = HashMap ℕ ℕ (BuildHasherDefault FoldHasher)

-- the table gives the last place that is stated for each name
abbrev pub IsClassPlaces : List (ClassPlaceOf ℕ) → ClassTable → Type 0
IsClassPlaces places table =
    (n : ℕ) → get nat_eq table n ≡ option_map (λ (p : ClassPlaceOf ℕ). p.place) (find (λ (p : ClassPlaceOf ℕ). nat_eq p.class n) (reverse places))

-- whether two keys are one
abbrev pub same_key : PlaceKey → PlaceKey → Bool
same_key a b = nat_eq a.class b.class && (beq a.meta b.meta && nat_eq a.selector b.selector)

-- the key of the method for which a place is stated
abbrev pub stated_key : MethodPlaceOf ℕ → PlaceKey
stated_key p = record { class = p.class; meta = p.meta; selector = p.selector }

-- the class, the side and the selector of a method
abbrev pub key_of : MethodDraft → PlaceKey
key_of m = record { class = m.class; meta = m.meta; selector = m.tree.selector }

-- places by keys
abbrev pub MethodTable : Type 0
MethodTable = HashMap PlaceKey ℕ (BuildHasherDefault FoldHasher)

-- the table gives the last place that is stated for each method
abbrev pub IsMethodPlaces : List (MethodPlaceOf ℕ) → MethodTable → Type 0
IsMethodPlaces places table =
    (q : PlaceKey) → get same_key table q ≡ option_map (λ (p : MethodPlaceOf ℕ). p.place) (find (λ p. same_key (stated_key p) q) (reverse places))
