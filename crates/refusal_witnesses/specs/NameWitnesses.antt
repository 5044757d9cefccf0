-- What is in the way of the conditions of names: reflection, names and selectors that are there already.
use Rattle.std.specs.Prelude.{Bool, ◌||◌, if◌then◌else◌, List, [], ◌∷◌, ◌++◌, map, filter}
use Rattle.std.specs.List.{list_any, flat_map}
use Rattle.tree_model.specs.Tree.{SequenceOf}
use Rattle.image_model.specs.Image.{EntryOf, ImageOf}
use Rattle.image_model.specs.Uses.{is_sender}
use Rattle.rename_model.specs.CommandWords.{CommandWordsOf}
use Rattle.rename_model.specs.NamesThere.{is_named_by, is_named_by_class}
use Rattle.rename_model.specs.Conditions.{is_reflective}
use Rattle.command_model.specs.Commands.{CommandOf, AddMethod}
use Rattle.command_model.specs.MethodEffects.{new_method}
use Rattle.refusal_witnesses.specs.Witnesses.{OwnerOf, InMethod, WitnessOf, AWhole, ASelector, a_method, a_class_of, where_true, nodes_that, in_doits}

-- in a method of the user: the method itself, if it is the one for messages that are not understood, and its reflective nodes
abbrev pub reflections_in : {N : Type 0} → CommandWordsOf N → EntryOf N → List (WitnessOf N)
reflections_in v m =
    if m.kernel
    then []
    else where_true (v.is_not_understood m.tree.selector) (a_method m) ++ nodes_that (λ e. is_reflective v e.1) (InMethod m) m.tree.body

-- the method that a command adds
abbrev pub added_by : {N : Type 0} → CommandOf N → List (EntryOf N)
added_by (AddMethod c meta protocol text tree) = new_method c meta protocol text tree ∷ []
added_by command = []

-- the reflective code of the user
abbrev pub reflections_there : {N : Type 0} → CommandWordsOf N → ImageOf N → List (WitnessOf N)
reflections_there v i = flat_map (reflections_in v) i.methods ++ in_doits (nodes_that (λ e. is_reflective v e.1)) i

-- NoReflection: that, and the reflective code of the command
abbrev pub reflections : {N : Type 0} → CommandWordsOf N → ImageOf N → CommandOf N → List (WitnessOf N)
reflections v i command = reflections_there v i ++ flat_map (reflections_in v) (added_by command)

module _ {N : Type 0} (same : N → N → Bool) where
  -- what names n in a sequence with a head that declares these names: the whole, if the name is among these or is a temporary of the sequence, and the nodes that read, assign or declare it
  abbrev pub namings_in : N → List N → OwnerOf N → SequenceOf N → List (WitnessOf N)
  namings_in n declared owner b =
      where_true (list_any (same n) declared || list_any (same n) b.temporaries) (AWhole owner)
      ++ nodes_that (λ e. is_named_by same n e.1) owner b

  -- so in a method
  abbrev pub namings_in_method : N → EntryOf N → List (WitnessOf N)
  namings_in_method n m = namings_in n m.tree.arguments (InMethod m) m.tree.body

  -- NameUnused: the classes that have the name or a variable of it, and the code that names it
  abbrev pub namings : ImageOf N → N → List (WitnessOf N)
  namings i n =
      map a_class_of (filter (is_named_by_class same n) i.classes)
      ++ (flat_map (namings_in_method n) i.methods ++ in_doits (namings_in n []) i)

  -- the method, if it has the selector, and the nodes in it that send it
  abbrev pub speakings_in : N → EntryOf N → List (WitnessOf N)
  speakings_in s m = where_true (same s m.tree.selector) (a_method m) ++ nodes_that (λ e. is_sender same s e.1) (InMethod m) m.tree.body

  -- SelectorFresh: who has the selector, and who sends it
  abbrev pub speakings : ImageOf N → N → List (WitnessOf N)
  speakings i s = flat_map (speakings_in s) i.methods ++ in_doits (nodes_that (λ e. is_sender same s e.1)) i

  -- NotKernelSelector: the methods of the kernel that have the selector or send it, and the selector itself, if it has a meaning of its own
  abbrev pub kernel_speakings : CommandWordsOf N → ImageOf N → N → List (WitnessOf N)
  kernel_speakings v i s =
      flat_map (λ (m : EntryOf N). if m.kernel then speakings_in s m else []) i.methods ++ where_true (v.has_own_meaning s) (ASelector s)
