-- Which classes have which variables, and which names are those of superclasses.
use Rattle.std.specs.Prelude.{◌≡◌, ℕ, List, Bool, true, false, ◌||◌, nat_eq}
use Rattle.std.specs.List.{AllByRecursion}
use Rattle.std.specs.Option.{option_map_or}
use Rattle.image_model.specs.Image.{ClassOf}
use Rattle.image_model.specs.Means.{VariableKind, of_instance, of_class_side, variables}
use Rattle.image_draft.specs.NameSets.{has}
use Rattle.image_draft.specs.Table.{place_at}
use Rattle.image_draft.specs.declared.owners.VariableOwners.{VariableOwners}
use Rattle.image_draft.specs.declared.owners.Owners.{Owners}

-- whether a variable is noted for a class, alone or with others
abbrev pub is_noted_for : VariableOwners → ℕ → ℕ → Bool
is_noted_for t n m = has t.shared m || option_map_or (nat_eq n) (place_at t.first m) false

-- each variable of a kind is noted for its class
abbrev pub AreNoted : VariableOwners → VariableKind → List (ClassOf ℕ) → Type 0
AreNoted t kind cs = AllByRecursion (λ (c : ClassOf ℕ). AllByRecursion (λ m. is_noted_for t c.name m ≡ true) (variables kind c)) cs

-- the variables are noted for a class alone
abbrev pub AreAlone : VariableOwners → ℕ → List ℕ → Type 0
AreAlone t n names = AllByRecursion (λ m. (has t.shared m ≡ false) × (is_noted_for t n m ≡ true)) names

-- what is noted for a class stays so
abbrev pub KeepsNotes : VariableOwners → VariableOwners → Type 0
KeepsNotes before after = (n m : ℕ) → is_noted_for before n m ≡ true → is_noted_for after n m ≡ true

-- no variable is noted for more than one class
abbrev pub NoneShared : VariableOwners → Type 0
NoneShared t = (m : ℕ) → has t.shared m ≡ false

-- the names that are noted stay so
abbrev pub KeepsNames : List Bool → List Bool → Type 0
KeepsNames before after = (m : ℕ) → has before m ≡ true → has after m ≡ true

-- the superclass of a class, if it has one, is noted
abbrev pub IsUnderNoted : List Bool → ClassOf ℕ → Type 0
IsUnderNoted names c = option_map_or (has names) c.superclass true ≡ true

-- each variable of which no two of one name may stand on a chain is noted for its class, and each superclass is noted
pub record AreOwned (t : Owners) (cs : List (ClassOf ℕ)) : Type 0 where
  pub instance : AreNoted t.instance of_instance cs
  pub class_side : AreNoted t.class_side of_class_side cs
  pub superclasses : AllByRecursion (IsUnderNoted t.superclasses) cs
