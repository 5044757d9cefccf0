-- What is in the way of the conditions of classes and of variables.
use Rattle.std.specs.Prelude.{Bool, not, ◌&&◌, ◌||◌, if◌then◌else◌, List, [], ◌∷◌, ◌++◌, map, filter, Some, unwrap_or}
use Rattle.std.specs.List.{list_any, flat_map}
use Rattle.std.specs.Option.{option_map_or}
use Rattle.image_model.specs.Image.{ClassOf, EntryOf, ImageOf}
use Rattle.image_model.specs.Words.{WordsOf}
use Rattle.image_model.specs.Chain.{class_named, chain}
use Rattle.image_model.specs.Nodes.{Use}
use Rattle.image_model.specs.Uses.{class_uses, variable_uses}
use Rattle.rename_model.specs.Conditions.{defines, stands_below, is_method_below}
use Rattle.command_model.specs.Commands.{CommandOf, PushUpInstVar, PushUpClassVar, kind_of}
use Rattle.command_model.specs.Hierarchy.{superclass_name, is_child, is_method_of}
use Rattle.command_model.specs.ClassConditions.{is_in_method_that}
use Rattle.command_model.specs.VariableConditions.{losers, is_looked_through}
use Rattle.refusal_witnesses.specs.Witnesses.{WitnessOf, AClass, a_use, a_class_of, where_true}
use Rattle.refusal_witnesses.specs.NameWitnesses.{namings_in_method}

-- NotReferenced: what means the class outside its own methods
abbrev pub outer_uses : {N : Type 0} → WordsOf N → ImageOf N → N → List (WitnessOf N)
outer_uses w i c = map a_use (filter (λ (u : Use). not (is_in_method_that (is_method_of w.tests.same c) i u.place)) (class_uses w i c))

-- VariableUnused: what means the variable in the methods that the command looks through
abbrev pub looked_uses : {N : Type 0} → WordsOf N → ImageOf N → CommandOf N → N → N → List (WitnessOf N)
looked_uses w i command c x =
    map a_use (filter (λ (u : Use). is_in_method_that (is_looked_through w.tests.same i.classes command c) i u.place) (variable_uses w i c x (kind_of command)))

module _ {N : Type 0} (same : N → N → Bool) (i : ImageOf N) where
  -- IsUserClass: the class, if it is one of the kernel
  abbrev pub kernel_class : N → List (WitnessOf N)
  kernel_class c = option_map_or (λ (e : ClassOf N). where_true e.kernel (a_class_of e)) (class_named same i.classes c) []

  -- ParentIsUser: the superclass so
  abbrev pub kernel_parent : N → List (WitnessOf N)
  kernel_parent c = option_map_or kernel_class (superclass_name same i c) []

  -- NoSubclasses: the direct subclasses
  abbrev pub children : N → List (WitnessOf N)
  children c = map a_class_of (filter (is_child same c) i.classes)

  -- ChildOf: the class under which d stands instead, or one of the kernel
  abbrev pub other_parent : N → N → List (WitnessOf N)
  other_parent d c =
      option_map_or (λ (e : ClassOf N). where_true (e.kernel || not (is_child same c e)) (AClass (unwrap_or e.superclass e.name))) (class_named same i.classes d) []

  -- LacksVariable: the class, if it defines the variable
  abbrev pub own_definer : N → N → List (WitnessOf N)
  own_definer c x = option_map_or (λ (e : ClassOf N). where_true (defines same x e) (a_class_of e)) (class_named same i.classes c) []

  -- the classes that a command does not look at, nor at those below them: if a variable goes up, those that lose it
  abbrev pub overlooked : CommandOf N → N → N → List N
  overlooked (PushUpInstVar b y) c x = losers same i c x
  overlooked (PushUpClassVar b y) c x = b ∷ []
  overlooked command c x = []

  -- VariableFree: the classes above and below that define the variable, and what names it in the methods of the class and of those below it
  abbrev pub hindrances : List N → N → N → List (WitnessOf N)
  hindrances excepted c x =
      map a_class_of (filter (defines same x) (chain same i.classes (Some c)))
      ++ (map a_class_of (filter (λ e. stands_below same i.classes c e && (not (list_any (λ d. stands_below same i.classes d e) excepted) && defines same x e)) i.classes)
      ++ flat_map (λ (m : EntryOf N).
      if is_method_below same i.classes c m && not (list_any (λ d. is_method_below same i.classes d m) excepted)
      then namings_in_method same x m
      else []) i.methods)
