-- Whether equal parts stand at all places of one metavariable.
use Rattle.std.specs.Prelude.{◌≡◌, ℕ, if◌then◌else◌, Bool, false, List, [], ◌∷◌, nat_eq}
use Rattle.tree_model.specs.Tree.{var}
use Rattle.pattern_model.specs.declared.kinds.MetaKind.TheVariants.{Name}
use Rattle.pattern_model.specs.Patterns.{MetaOf}
use Rattle.pattern_model.specs.Bindings.{BoundOf, a_part, a_selector, bare_bound, same_meta}
use Rattle.pattern_model.specs.MatchTree.{PlaceOf, agree}
use Rattle.pattern_match.specs.Words.{number_words}

-- numbers are compared, whatever their texts
abbrev pub agrees : List (PlaceOf ℕ) → Bool
agrees xs = agree (number_words []) xs

-- what stands at the first place of a metavariable
abbrev pub first_bound : List (PlaceOf ℕ) → MetaOf ℕ → BoundOf ℕ
first_bound [] m = a_part (var m.name)
first_bound (x ∷ xs) m = if same_meta nat_eq x.meta m then x.bound else first_bound xs m

-- whether the same stands there as at a place
abbrev pub IsFirst : List (PlaceOf ℕ) → PlaceOf ℕ → Type 0
IsFirst xs y = bare_bound (first_bound xs y.meta) ≡ bare_bound y.bound

-- what a number names that is no place's
abbrev pub no_place : PlaceOf ℕ
no_place = record { meta = record { kind = Name; name = 0; doubled = false }; bound = a_selector 0; parts = [] }
