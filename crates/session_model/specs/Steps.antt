-- The single commands of a composite, with names taken from the image in which it is judged.
use Rattle.std.specs.Prelude.{List, [], ◌∷◌, map, filter, Bool, false, not, ◌&&◌}
use Rattle.std.specs.List.{list_any, list_all}
use Rattle.std.specs.Option.{option_map_or}
use Rattle.tree_model.specs.Tree.{MethodOf}
use Rattle.tree_model.specs.Nodes.{nodes}
use Rattle.image_model.specs.Image.{ClassOf, EntryOf, ImageOf}
use Rattle.image_model.specs.Chain.{class_named}
use Rattle.image_model.specs.Means.{of_instance}
use Rattle.image_model.specs.Uses.{name_used}
use Rattle.rename_model.specs.ClassRenamed.{WritingOf}
use Rattle.rename_model.specs.Conditions.{has_variable}
use Rattle.command_model.specs.Commands.{CommandOf, AddClass, PushUpInstVar, AddMethod, PushUpMethod}
use Rattle.command_model.specs.Hierarchy.{is_method_of}
use Rattle.command_model.specs.Accessors.{getter, setter_of, accessing}
use Rattle.session_model.specs.Actions.{ActionOf, Single, CreateAccessors, ExtractSuperclass, PushUpWithMethods}

-- an instance method in canonical text that gives access to a variable
abbrev pub accessor : {N : Type 0} → WritingOf N → N → MethodOf N → CommandOf N
accessor writing c tree = AddMethod c false accessing (writing.method_text tree) tree

-- whether a method is one of the instance side of the class, and some node of it reads or assigns the name
abbrev pub names_it : {N : Type 0} → (N → N → Bool) → N → N → EntryOf N → Bool
names_it same c x m =
    is_method_of same c m && (not m.meta && list_any (λ e. option_map_or (same x) (name_used e.1) false) (nodes m.tree.body))

module _ {N : Type 0} (same : N → N → Bool) (i : ImageOf N) where
  -- the instance variables that a class and all of the others have, in the order of that class
  abbrev pub shared_by : N → List N → List N
  shared_by s others =
      filter (λ x. list_all (λ t. has_variable same i of_instance t x) others)
      (option_map_or (λ (e : ClassOf _). e.instance) (class_named same i.classes s) [])

  -- the pushes of the variables that the classes of a list share, from the first of them
  abbrev pub shared_pushes : List N → List (CommandOf N)
  shared_pushes [] = []
  shared_pushes (s ∷ others) = map (PushUpInstVar s) (shared_by s others)

  -- the single commands of an action
  abbrev pub steps_of : WritingOf N → ActionOf N → List (CommandOf N)
  steps_of writing (Single command) = command ∷ []
  steps_of writing (CreateAccessors c x s parameter) = accessor writing c (getter x) ∷ accessor writing c (setter_of x s parameter) ∷ []
  steps_of writing (ExtractSuperclass d p under) = AddClass d p under ∷ shared_pushes under
  steps_of writing (PushUpWithMethods c x) = PushUpInstVar c x ∷ map (λ (m : EntryOf _). PushUpMethod c false m.tree.selector) (filter (names_it same c x) i.methods)
