-- Getters and setters, and what `abstractInstVar` makes of an image.
use Rattle.std.specs.Prelude.{ℕ, Bool, false, if◌then◌else◌, List, [], ◌∷◌, ◌++◌, map, None, codes}
use Rattle.rb_base.specs.Names.{text_eq}
use Rattle.tree_model.specs.Tree.{TreeOf, var, send, assign, return, TreesOf, no_trees, more_trees, SequenceOf, MethodOf}
use Rattle.image_model.specs.Image.{EntryOf, DoItOf, ImageOf}
use Rattle.image_model.specs.Words.{WordsOf}
use Rattle.image_model.specs.Means.{of_instance, MeaningOf, means, means_in_doit}
use Rattle.rename_model.specs.ClassRenamed.{WritingOf}
use Rattle.rename_model.specs.VariableRenamed.{is_it, means_the_variable}
use Rattle.command_model.specs.MethodEffects.{method_added}
use Rattle.command_model.specs.Walk.{Making, rebuilt_sequence, rebuilt_method}
use Rattle.command_model.specs.Sequences.{single}

-- a method that answers an expression
abbrev pub answering : {N : Type 0} → N → List N → TreeOf N → MethodOf N
answering s arguments t =
    record { selector = s; arguments = arguments; head = []; primitive = None; body = record { temporaries = []; statements = single (return t); tail = [] } }

-- the getter and the setter of a variable: `x ^x`, and `x: anObject ^x := anObject`
abbrev pub getter : {N : Type 0} → N → MethodOf N
getter x = answering x [] (var x)

abbrev pub setter_of : {N : Type 0} → N → N → N → MethodOf N
setter_of x setter given = answering setter (given ∷ []) (assign x (var given))

-- how the setter's selector and its argument are spelled for a variable
abbrev pub setter_selector : List ℕ → List ℕ
setter_selector x = x ++ codes ":"

abbrev pub setter_argument : List ℕ → List ℕ
setter_argument x = if text_eq x (codes "anObject") then codes "aValue" else codes "anObject"

-- the protocol of both
abbrev pub accessing : List ℕ
accessing = codes "accessing"

module _ {N : Type 0} (w : WordsOf N) (writing : WritingOf N) (self_name c x setter given : N) (i : ImageOf N) where
  -- a message to `self`
  abbrev to_self : N → TreesOf N → TreeOf N
  to_self s args = send (var self_name) s args

  -- whether a name that has a meaning is that of the variable
  abbrev is_variable : MeaningOf N → N → Bool
  is_variable meaning n = is_it w writing i of_instance c x x meaning n

  -- a node, by what names mean there: where it reads the variable, a message of the getter, and where it assigns it, one of the setter
  abbrev pub made : (List ℕ → N → MeaningOf N) → Making N
  made at path (var n) = if is_variable (at path n) n then to_self x no_trees else var n
  made at path (assign n t) = if is_variable (at path n) n then to_self setter (more_trees t no_trees) else assign n t
  made at path t = t

  -- whether a sequence means the variable
  abbrev pub is_meant : (List ℕ → N → MeaningOf N) → SequenceOf N → Bool
  is_meant at b = means_the_variable w writing i of_instance c x x at b

  -- a method so, and its text where it means the variable
  abbrev pub method_made : EntryOf N → EntryOf N
  method_made m =
      let tree : MethodOf N = rebuilt_method (made (means w i m)) m.tree in
      if is_meant (means w i m) m.tree.body then record m { tree = tree; source = writing.method_text tree } else m

  -- a do-it so
  abbrev pub doit_made : DoItOf N → DoItOf N
  doit_made d =
      let body : SequenceOf N = rebuilt_sequence (made (means_in_doit w i d)) d.body in
      if is_meant (means_in_doit w i d) d.body then record { body = body; source = writing.doit_text body } else d

  -- the image in which the variable is read and assigned by messages alone, and then the getter and the setter are put in
  abbrev pub variable_abstracted : ImageOf N
  variable_abstracted =
      method_added c false accessing (writing.method_text (setter_of x setter given)) (setter_of x setter given)
      (method_added c false accessing (writing.method_text (getter x)) (getter x)
      (record i { methods = map method_made i.methods; doits = map doit_made i.doits }))
