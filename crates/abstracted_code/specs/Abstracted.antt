-- Code in which an instance variable is read and assigned by messages.
use Rattle.std.specs.Prelude.{ℕ, Bool, List, [], Option, Some, None, if◌then◌else◌}
use Rattle.tree_model.specs.Tree.{SequenceOf, MethodOf}
use Rattle.image_model.specs.Image.{EntryOf}
use Rattle.image_model.specs.Words.{number_words}
use Rattle.image_model.specs.Means.{MeaningOf, means, means_in_doit}
use Rattle.command_model.specs.Accessors.{made, is_meant}
use Rattle.command_model.specs.Numbers.{number_writing}
use Rattle.command_model.specs.Walk.{Making, rebuilt_sequence, rebuilt_method}
use Rattle.class_table.specs.Slots.{Slots}
use Rattle.class_table.specs.View.{number_image}
use Rattle.abstracted_code.specs.declared.abstraction.Abstraction.{Abstraction}

module _ (s : Slots) (a : Abstraction) where
  -- what names stand for in a method, and in a do-it
  abbrev pub in_method : EntryOf ℕ → List ℕ → ℕ → MeaningOf ℕ
  in_method m = means (number_words s.names) (number_image s) m

  abbrev pub in_doit : SequenceOf ℕ → List ℕ → ℕ → MeaningOf ℕ
  in_doit b = means_in_doit (number_words s.names) (number_image s) (record { source = []; body = b })

  -- a node after, by what names stand for
  abbrev pub node_after : (List ℕ → ℕ → MeaningOf ℕ) → Making ℕ
  node_after at = made (number_words s.names) (number_writing s.names) a.self_name a.class a.variable a.setter a.parameter (number_image s) at

  -- whether code means the variable
  abbrev pub means_it : (List ℕ → ℕ → MeaningOf ℕ) → SequenceOf ℕ → Bool
  means_it at b = is_meant (number_words s.names) (number_writing s.names) a.self_name a.class a.variable a.setter a.parameter (number_image s) at b

  -- the tree of a method after, and the body of a do-it, if they mean it
  abbrev pub method_after : EntryOf ℕ → Option (MethodOf ℕ)
  method_after m = if means_it (in_method m) m.tree.body then Some (rebuilt_method (node_after (in_method m)) m.tree) else None

  abbrev pub body_after : SequenceOf ℕ → Option (SequenceOf ℕ)
  body_after b = if means_it (in_doit b) b then Some (rebuilt_sequence (node_after (in_doit b)) b) else None
