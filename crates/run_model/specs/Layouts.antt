-- Environments that are laid out as scopes declare names, and what a name then reads.
use Rattle.std.specs.Prelude.{◌≡◌, ℕ, List, [], ◌∷◌, ◌++◌, map, Option, Some, None}
use Rattle.std.specs.List.{AllByRecursion}
use Rattle.scope_model.specs.Scope.{ScopeOf, PlacedScope}
use Rattle.scope_model.specs.declared.local.Local.{Local}
use Rattle.scope_model.specs.declared.local.Local.TheVariants.{Argument, Temporary, NotLocal}
use Rattle.image_model.specs.Means.{MeaningOf, pseudo, argument, temporary, variable, a_class, transcript, undeclared}
use Rattle.run_model.specs.Values.{Name, Value}
use Rattle.run_model.specs.Store.{Binding, holds, in_cell, Slot, Frame, value_in_cell}
use Rattle.run_model.specs.Operations.{Operations, looks}
use Rattle.run_model.specs.Reading.{reads_pseudo, reads_meaning}

-- a slot has a value
abbrev pub HoldsValue : Slot → Type 0
HoldsValue e = (v : Value) × (e.binding ≡ holds v)

-- a slot has a cell
abbrev pub IsInCell : Slot → Type 0
IsInCell e = (k : ℕ) × (e.binding ≡ in_cell k)

-- the slots of a scope and of the scopes round it: its arguments by value, its temporaries by cells, and then the rest
pub record IsLaidOutFor (scope : ScopeOf Name) (Rest : List Slot → Type 0) (slots : List Slot) : Type 0 where
  pub arguments : List Slot
  pub temporaries : List Slot
  pub rest : List Slot
  pub all : slots ≡ arguments ++ (temporaries ++ rest)
  pub argument_names : map (λ (e : Slot). e.name) arguments ≡ scope.arguments
  pub temporary_names : map (λ (e : Slot). e.name) temporaries ≡ scope.temporaries
  pub argument_values : AllByRecursion HoldsValue arguments
  pub temporary_cells : AllByRecursion IsInCell temporaries
  pub outer : Rest rest

-- the slots are those of scopes, innermost first
abbrev pub IsLaidOut : List (PlacedScope Name) → List Slot → Type 0
IsLaidOut [] slots = slots ≡ []
IsLaidOut (p ∷ ps) slots = IsLaidOutFor p.1 (IsLaidOut ps) slots

-- what an act is that reads a name with a meaning: an argument its value, a temporary what is in its cell
abbrev pub ReadsAs : (w : Operations) → Frame → Name → MeaningOf Name → w.Act Value → Type 0
ReadsAs w f n pseudo act = act ≡ reads_pseudo w f n
ReadsAs w f n (argument scope) act = (v : Value) × (act ≡ w.gives v)
ReadsAs w f n (temporary scope) act = (k : ℕ) × (act ≡ looks w (λ m. value_in_cell m k))
ReadsAs w f n (variable kind c) act = act ≡ reads_meaning w f n (variable kind c)
ReadsAs w f n (a_class c) act = act ≡ reads_meaning w f n (a_class c)
ReadsAs w f n transcript act = act ≡ reads_meaning w f n transcript
ReadsAs w f n undeclared act = act ≡ reads_meaning w f n undeclared

-- what the environment has for a name, by what the scopes say of it
abbrev pub IsBoundAs : Local → Option Binding → Type 0
IsBoundAs (Argument scope) b = (v : Value) × (b ≡ Some (holds v))
IsBoundAs (Temporary scope) b = (k : ℕ) × (b ≡ Some (in_cell k))
IsBoundAs NotLocal b = b ≡ None
