-- Look-ups in an image: where names are sent, implemented, read, assigned and declared.
use Rattle.std.specs.Prelude.{ℕ, List, [], map}
use Rattle.image_model.specs.Image.{ImageOf}
use Rattle.image_model.specs.Words.{WordsOf}
use Rattle.image_model.specs.Means.{VariableKind}
use Rattle.image_model.specs.Nodes.{in_method, Use}
use Rattle.image_model.specs.Uses.{senders, implementors, variable_uses, class_uses, identifier_uses}

-- What is looked up: who sends or implements a selector, which nodes mean a variable of a kind and a class, or a class, and what names or declares a name.
pub data LookUpOf (N : Type 0) : Type 0 where
  of_senders : N → LookUpOf N
  of_implementors : N → LookUpOf N
  of_variable : VariableKind → (c x : N) → LookUpOf N
  of_class : N → LookUpOf N
  of_identifier : N → LookUpOf N

-- the method of a number itself, by the empty path
abbrev pub whole_method : ℕ → Use
whole_method k = record { place = in_method k; path = [] }

-- where it is found: methods in the order of the image, then do-its, and in each of them a node before those below it
abbrev pub found : {N : Type 0} → WordsOf N → ImageOf N → LookUpOf N → List Use
found w i (of_senders s) = senders w i s
found w i (of_implementors s) = map whole_method (implementors w i s)
found w i (of_variable kind c x) = variable_uses w i c x kind
found w i (of_class c) = class_uses w i c
found w i (of_identifier n) = identifier_uses w i n
