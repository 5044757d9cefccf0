-- Expressions whose value nothing changes.
use Rattle.std.specs.Prelude.{Bool, true, false, ◌||◌, is_some, List, ℕ}
use Rattle.tree_model.specs.Tree.{LiteralOf, number, array, bytes, word, TreeOf, var, literal}
use Rattle.image_model.specs.Image.{EntryOf, ImageOf}
use Rattle.image_model.specs.Means.{MeaningOf, pseudo, argument, a_class, means}
use Rattle.run_model.specs.Numbers.{numeral_integer}
use Rattle.command_model.specs.Asked.{AskedOf}

-- an atom: a number of 64 bits, a string, a symbol, a character, nil, true or false
abbrev pub is_atom_literal : {N : Type 0} → LiteralOf N → Bool
is_atom_literal (number t) = is_some (numeral_integer t)
is_atom_literal (array ls) = false
is_atom_literal (bytes ls) = false
is_atom_literal l = true

-- a literal as a node; nil, true and false are names
abbrev pub literal_node : {N : Type 0} → LiteralOf N → TreeOf N
literal_node (word n) = var n
literal_node l = literal l

module _ {N : Type 0} (a : AskedOf N) where
  -- whether a literal that is given is an atom: a word is nil, true or false
  abbrev pub is_passed_atom : LiteralOf N → Bool
  is_passed_atom (word n) = a.is_constant n
  is_passed_atom l = is_atom_literal l

  -- whether a name with a meaning is a constant, `self`, an argument or block parameter, or a class
  abbrev pub is_plain_name : MeaningOf N → N → Bool
  is_plain_name pseudo n = a.is_constant n || a.words.tests.same a.self_name n
  is_plain_name (argument scope) n = true
  is_plain_name (a_class c) n = true
  is_plain_name meaning n = false

  -- whether a node at a place of a method is an atom, `self`, an argument or block parameter, or a class
  abbrev pub is_plain : ImageOf N → EntryOf N → List ℕ → TreeOf N → Bool
  is_plain i m path (var n) = is_plain_name (means a.words i m path n) n
  is_plain i m path (literal l) = is_atom_literal l
  is_plain i m path t = false
