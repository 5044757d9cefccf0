-- Atom literals as nodes.
use Rattle.std.proofs.Common.{◌≡◌, Option, Some, None, refl, sym, ◌∙◌}
use Rattle.std.specs.Prelude.{ℤ, Bool, true, false, is_some}
use Rattle.std.specs.Option.{option_map_or}
use Rattle.tree_model.specs.Tree.{LiteralOf, number, str, symbol, char, array, bytes, word, TreeOf, var, literal, send, cascade, assign, block, brace, return}
use Rattle.run_model.specs.Values.{Name}
use Rattle.run_model.specs.Numbers.{numeral_integer}
use Rattle.argument_laws.specs.PlainArguments.{is_atom}
use Rattle.command_model.specs.Asked.{is_constant_text, text_asked}
use Rattle.command_model.specs.Plain.{is_atom_literal, is_passed_atom, literal_node}

-- whether a node is an atom literal, where `nil`, `true` and `false` are names
abbrev pub is_atom_tree : TreeOf Name → Bool
is_atom_tree (var n) = is_constant_text n
is_atom_tree (literal l) = is_atom l
is_atom_tree (send r s args) = false
is_atom_tree (cascade r ms) = false
is_atom_tree (assign n t) = false
is_atom_tree (block ps ts ss e) = false
is_atom_tree (brace ts) = false
is_atom_tree (return t) = false

-- two tests that a numeral has a value
told : (o : Option ℤ) → is_some o ≡ option_map_or (λ z. true) o false
told None = refl
told (Some z) = refl

-- both tests of literals say the same
pub atom-told : (l : LiteralOf Name) → is_atom_literal l ≡ is_atom l
atom-told (number t) = told (numeral_integer t)
atom-told (str t) = refl
atom-told (symbol t) = refl
atom-told (char b) = refl
atom-told (array ls) = refl
atom-told (bytes ls) = refl
atom-told (word n) = refl

-- the node of an atom literal that is passed
pub node-atom : (l : LiteralOf Name) → is_passed_atom text_asked l ≡ true → is_atom_tree (literal_node l) ≡ true
node-atom (number t) e = sym (atom-told (number t)) ∙ e
node-atom (str t) e = refl
node-atom (symbol t) e = refl
node-atom (char b) e = refl
node-atom (array ls) e = e
node-atom (bytes ls) e = e
node-atom (word n) e = e
