-- What an index knows of the code of an image: which names the code at each place mentions.
use Rattle.std.specs.Prelude.{◌≡◌, ◌↔◌, ℕ, List, [], slice_get, unwrap_or, Contains, Bool, false, nat_eq}
use Rattle.std.specs.List.{IsDistinct}
use Rattle.std.specs.Option.{option_map_or}
use Rattle.st_tree.specs.View.{method_of, sequence_of}
use Rattle.class_table.specs.declared.record.MethodRec.{MethodRec}
use Rattle.class_table.specs.declared.record.DoIt.{DoIt}
use Rattle.class_table.specs.declared.record.Place.{Place}
use Rattle.class_table.specs.declared.record.Place.TheVariants as place
use Rattle.class_table.specs.Slots.{Slots}
use Rattle.class_table.specs.View.{live_at}
use Rattle.mentions.specs.Mentions.{code_names, method_names}
use Rattle.mentions.specs.Listing.{ListsOnce}

-- the names that are kept of each slot of a method and of each do-it
pub record Mentioned : Type 0 where
  pub methods : List (List ℕ)
  pub doits : List (List ℕ)

-- the names that are kept of a place
abbrev pub kept_of : Mentioned → Place → List ℕ
kept_of x (place.Method k) = unwrap_or (slice_get x.methods k) []
kept_of x (place.DoIt n) = unwrap_or (slice_get x.doits n) []

-- the names that the code at a place mentions; the code of a method that is not live mentions none
abbrev pub names_at : Slots → Place → List ℕ
names_at s (place.Method k) = option_map_or (λ (m : MethodRec). method_names (method_of m.tree)) (live_at s.methods s.method_order k) []
names_at s (place.DoIt n) = option_map_or (λ (d : DoIt). code_names (sequence_of d.body)) (slice_get s.doits n) []

-- the index is that of the image: of each place the names are kept that the code there mentions, each once
abbrev pub IsIndexOf : Slots → Mentioned → Type 0
IsIndexOf s x = (p : Place) → ListsOnce (names_at s p) (kept_of x p)

-- whether two places are one
abbrev pub same_place : Place → Place → Bool
same_place (place.Method j) (place.Method k) = nat_eq j k
same_place (place.DoIt m) (place.DoIt n) = nat_eq m n
same_place p q = false

-- the places whose code mentions a name, each once, as the index keeps it
pub record ListsPlaces (x : Mentioned) (name : ℕ) (places : List Place) : Type 0 where
  pub once : IsDistinct same_place places
  pub members : (p : Place) → Contains places p ↔ Contains (kept_of x p) name

-- code that mentions other names in the second image stands at one of these places
abbrev pub DiffersAtMost : Slots → Slots → List Place → Type 0
DiffersAtMost s t touched = (p : Place) → ¬ Contains touched p → names_at t p ≡ names_at s p
