-- A fact of each name in a change and in a run of methods.
use Rattle.std.specs.List.{AllByRecursion}
use Rattle.image_model.specs.ImageNames.{OptionNames}
use Rattle.file_model.specs.Changes.{DefinitionOf, ChangeOf, Define, DefineAt, Comment, SetClassSide, RemoveMethod, RemoveClass}

-- of each name in a definition
pub record DefinitionNames {N : Type 0} (P : N → Type 0) (d : DefinitionOf N) : Type 0 where
  pub name : P d.name
  pub superclass : OptionNames P d.superclass
  pub instance : AllByRecursion P d.instance
  pub shared : AllByRecursion P d.shared

-- of each name in a change
abbrev pub ChangeNames : {N : Type 0} → (N → Type 0) → ChangeOf N → Type 0
ChangeNames P (Define d) = DefinitionNames P d
ChangeNames P (DefineAt d k) = DefinitionNames P d
ChangeNames P (Comment c t) = P c
ChangeNames P (SetClassSide c ns) = P c × AllByRecursion P ns
ChangeNames P (RemoveMethod c meta s) = P c × P s
ChangeNames P (RemoveClass c) = P c
