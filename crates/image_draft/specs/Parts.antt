-- The parts of chains below a class.
use Rattle.std.specs.Prelude.{◌≡◌, ℕ, List, [], ◌∷◌, Bool, false, not, nat_eq, ◌&&◌, ◌||◌, if◌then◌else◌, Some}
use Rattle.std.specs.List.{list_any, flat_map, AllByRecursion}
use Rattle.std.specs.Option.{option_map_or}
use Rattle.image_model.specs.Image.{ClassOf}
use Rattle.image_model.specs.Chain.{chain_from}
use Rattle.image_model.specs.Means.{VariableKind, variables}
use Rattle.file_model.specs.Hierarchy.{has_repeat}
use Rattle.image_draft.specs.NameSets.{with_name}

-- the classes of a chain below the first one of a name
abbrev pub part_below : ℕ → List (ClassOf ℕ) → List (ClassOf ℕ)
part_below n [] = []
part_below n (c ∷ cs) = if nat_eq n c.name then [] else c ∷ part_below n cs

-- no variable of a kind stands twice on the part of a chain below the class of a name
abbrev pub PartsOnce : List (ClassOf ℕ) → VariableKind → ℕ → Type 0
PartsOnce cs kind n =
    AllByRecursion (λ (c : ClassOf ℕ). has_repeat nat_eq (flat_map (variables kind) (part_below n (chain_from nat_eq cs (Some c)))) ≡ false) cs

-- whether a class of another name than this one defines a variable of a kind that passes a test
abbrev pub brings : ℕ → VariableKind → (ℕ → Bool) → ClassOf ℕ → Bool
brings n kind f c = not (nat_eq n c.name) && list_any f (variables kind c)

-- whether a class is that of a name, or its superclass passes a test
abbrev pub is_marked : ℕ → (ℕ → Bool) → ClassOf ℕ → Bool
is_marked n f c = nat_eq n c.name || option_map_or f c.superclass false

-- the classes of one pass that are that of a name or stand below it, where a test tells the names of those before them
abbrev pub marked : ℕ → (ℕ → Bool) → List (ClassOf ℕ) → List (ClassOf ℕ)
marked n f [] = []
marked n f (c ∷ cs) = if is_marked n f c then c ∷ marked n (with_name c.name f) cs else marked n f cs
