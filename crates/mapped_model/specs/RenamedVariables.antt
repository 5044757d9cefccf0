-- A variable that is renamed in one class and in those below it.
use Rattle.std.specs.Prelude.{◌≡◌, Bool, ◌&&◌, if◌then◌else◌, IsTrue, Some}
use Rattle.std.specs.List.{AllByRecursion}
use Rattle.rb_base.specs.Names.{text_eq}
use Rattle.image_model.specs.Image.{ClassOf, ImageOf}
use Rattle.image_model.specs.Chain.{chain}
use Rattle.image_model.specs.Means.{VariableKind}
use Rattle.class_chains.specs.Chains.{is_on_chain}
use Rattle.run_model.specs.Values.{Name}
use Rattle.run_model.specs.Renamings.{OfClass}
use Rattle.mapped_model.specs.NameMaps.{NameMaps}
use Rattle.mapped_model.specs.NamesInUse.{IsAmong}
use Rattle.mapped_model.specs.NamesOfImages.{variables_along}

-- whether a class stands on the chain of another
abbrev pub stands_above : ImageOf Name → Name → Name → Bool
stands_above i c d = is_on_chain text_eq i.classes c (Some d)

-- what a variable is called after, where one of a class is renamed
abbrev pub renamed_below : ImageOf Name → Name → Name → Name → OfClass → Name
renamed_below i c old new k = if stands_above i c k.0 && text_eq old k.1 then new else k.1

-- all things keep their names
abbrev pub same_names : NameMaps
same_names = record { class = λ c. c; selector = λ s. s; shared = λ k. k; instance = λ k. k.1; class_side = λ k. k.1 }

-- an instance variable of a class is renamed, or a class-instance variable
abbrev pub with_instance_renamed : ImageOf Name → Name → Name → Name → NameMaps
with_instance_renamed i c old new = record same_names { instance = renamed_below i c old new }

abbrev pub with_class_side_renamed : ImageOf Name → Name → Name → Name → NameMaps
with_class_side_renamed i c old new = record same_names { class_side = renamed_below i c old new }

-- a variable of a class may be renamed: the superclass of the class has none of the old name, and neither the class nor one below has any of the new one
pub record MayBeRenamed (i : ImageOf Name) (kind : VariableKind) (c old new : Name) : Type 0 where
  pub defined : AllByRecursion (λ (e : ClassOf Name). (d : Name) → c ≡ e.name → e.superclass ≡ Some d → ¬ IsAmong (variables_along i kind d) old) i.classes
  pub free : (d : Name) → IsTrue (stands_above i c d) → ¬ IsAmong (variables_along i kind d) new
