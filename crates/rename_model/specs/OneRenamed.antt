-- Renamings of one thing alone.
use Rattle.std.specs.Prelude.{List, [], ◌∷◌, map, filter, Bool}
use Rattle.rb_base.specs.Names.{text_eq}
use Rattle.image_model.specs.Image.{ClassOf, ImageOf}
use Rattle.image_model.specs.Means.{VariableKind, of_instance, of_class_side, of_class}
use Rattle.run_model.specs.Values.{Name}
use Rattle.run_model.specs.Renamings.{OfClass, Renaming, no_renaming}
use Rattle.rename_model.specs.Conditions.{stands_below}

-- of a selector
abbrev pub one_selector : (old new : Name) → Renaming
one_selector old new = record no_renaming { selectors = (old, new) ∷ [] }

-- of a variable that a class and each class below it has, in the order of the image
abbrev pub in_classes_below : ImageOf Name → (c old new : Name) → List (OfClass × Name)
in_classes_below i c old new = map (λ (e : ClassOf Name). ((e.name, old), new)) (filter (stands_below text_eq i.classes c) i.classes)

-- of a variable of a kind that a class defines
abbrev pub one_variable : ImageOf Name → VariableKind → (c old new : Name) → Renaming
one_variable i of_instance c old new = record no_renaming { instance = in_classes_below i c old new }
one_variable i of_class_side c old new = record no_renaming { class_side = in_classes_below i c old new }
one_variable i of_class c old new = record no_renaming { shared = ((c, old), (c, new)) ∷ [] }

-- of an argument, a parameter or a temporary of a method
abbrev pub one_temporary : (c : Name) → (meta : Bool) → (s old new : Name) → Renaming
one_temporary c meta s old new = record no_renaming { temporaries = (((c, meta, s), old), new) ∷ [] }
