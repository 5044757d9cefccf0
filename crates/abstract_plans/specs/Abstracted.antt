-- The command by which an instance variable is read and assigned by messages, and the changes of code by which it is done.
use Rattle.std.specs.Prelude.{◌≡◌, ℕ, List, false}
use Rattle.class_table.specs.declared.record.MethodRec.{MethodRec}
use Rattle.class_table.specs.declared.record.Place.{Place}
use Rattle.class_table.specs.Slots.{Slots}
use Rattle.change_set.specs.declared.change.Change.{Change}
use Rattle.st_tree.specs.View.{method_of, method_from}
use Rattle.st_tree.specs.declared.tree.Method.{Method}
use Rattle.command_model.specs.Accessors.{getter, setter_of, accessing}
use Rattle.command_model.specs.Commands.{CommandOf}
use Rattle.command_model.specs.Numbers.{number_writing}
use Rattle.command_model.specs.Walk.{rebuilt_sequence, rebuilt_method}
use Rattle.commands.specs.Views.{code_command}
use Rattle.commands.specs.declared.command.CodeMove.TheVariants as code
use Rattle.reference_index.specs.Mentioned.{Mentioned, ListsPlaces}
use Rattle.abstracted_code.specs.declared.abstraction.Abstraction.{Abstraction}
use Rattle.abstracted_code.specs.Abstracted.{in_method, in_doit, node_after, means_it}
use Rattle.remade_plans.specs.Remade.{Remaking, changes_at, touched}

-- the command
abbrev pub abstraction_command : Abstraction → CommandOf ℕ
abstraction_command a = code_command (code.AbstractVariable a.class a.variable a.setter a.parameter)

-- which code is made anew, and what it is then
abbrev pub remaking_of : Slots → Abstraction → Remaking
remaking_of s a = record {
  is_method_remade = λ m. means_it s a (in_method s a m) m.tree.body;
  method_after = λ m. rebuilt_method (node_after s a (in_method s a m)) m.tree;
  is_doit_remade = λ d. means_it s a (in_doit s a d.body) d.body;
  body_after = λ b. rebuilt_sequence (node_after s a (in_doit s a b)) b;
}

-- the changes of the places that an index lists for the variable, and those of these places that have one
pub record AreListed (s : Slots) (x : Mentioned) (a : Abstraction) (changes : List Change) (now : List Place) : Type 0 where
  pub places : List Place
  pub lists : ListsPlaces x a.variable places
  pub changes_are : changes ≡ changes_at s (remaking_of s a) places
  pub touched_are : now ≡ touched s (remaking_of s a) places

-- the trees of the getter and the setter
abbrev pub getter_tree : Abstraction → Method
getter_tree a = method_from (getter a.variable)

abbrev pub setter_tree : Abstraction → Method
setter_tree a = method_from (setter_of a.variable a.setter a.parameter)

-- a method of the user that gives access to a variable, in canonical text
abbrev pub accessor_rec : List (List ℕ) → ℕ → Method → MethodRec
accessor_rec names class tree =
    record { class = class; meta = false; protocol = accessing; source = (number_writing names).method_text (method_of tree); tree = tree; kernel = false }
