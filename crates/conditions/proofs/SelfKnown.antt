-- Where a command is known to a table, the table has a number for `self`.
use Rattle.std.proofs.Common.{◌≡◌, ℕ, ◌<◌, List, [], length, Option, None, Some, refl, arith}
use Rattle.std.specs.Prelude.{codes, unwrap_or}
use Rattle.std.proofs.lemmas.List.Quantifiers.{position-Some}
use Rattle.rb_base.specs.Names.{text_eq, number_in}
use Rattle.command_numbers.specs.CommandNames.{CommandNames}
use Rattle.name_meanings.specs.declared.meaning.VariableKind.TheVariants as kind
use Rattle.commands.specs.declared.command.Command.{Command}
use Rattle.commands.specs.declared.command.Command.TheVariants as command
use Rattle.commands.specs.declared.command.Renaming.TheVariants as renaming
use Rattle.commands.specs.declared.command.VariableMove.TheVariants as move
use Rattle.commands.specs.declared.command.CodeMove.TheVariants as code
use Rattle.commands.specs.Views.{command_of, self_in}

-- a command has a name
some-name : (P : ℕ → Type 0) (c : Command) → CommandNames P (command_of c) → (n : ℕ) × P n
some-name P (command.Rename (renaming.Class c d)) k = (c, k.0)
some-name P (command.Rename (renaming.Variable kind.Instance c x y)) k = (c, k.0)
some-name P (command.Rename (renaming.Variable kind.ClassSide c x y)) k = (c, k.0)
some-name P (command.Rename (renaming.Variable kind.Shared c x y)) k = (c, k.0)
some-name P (command.Rename (renaming.Selector s t)) k = (s, k.0)
some-name P (command.AddClass n) k = (n.name, k.0)
some-name P (command.RemoveClass c) k = (c, k)
some-name P (command.Variable (move.Add kind.Instance c x)) k = (c, k.0)
some-name P (command.Variable (move.Add kind.ClassSide c x)) k = (c, k.0)
some-name P (command.Variable (move.Add kind.Shared c x)) k = (c, k.0)
some-name P (command.Variable (move.Remove kind.Instance c x)) k = (c, k.0)
some-name P (command.Variable (move.Remove kind.ClassSide c x)) k = (c, k.0)
some-name P (command.Variable (move.Remove kind.Shared c x)) k = (c, k.0)
some-name P (command.Variable (move.InstanceUp c x)) k = (c, k.0)
some-name P (command.Variable (move.InstanceDown c x)) k = (c, k.0)
some-name P (command.Variable (move.SharedUp c x)) k = (c, k.0)
some-name P (command.Variable (move.SharedDown c x d)) k = (c, k.0)
some-name P (command.AddMethod n) k = (n.class, k.0)
some-name P (command.RemoveMethod m) k = (m.class, k.0)
some-name P (command.PushUpMethod m) k = (m.class, k.0)
some-name P (command.PushDownMethod m) k = (m.class, k.0)
some-name P (command.AddParameter n) k = (n.selector, k.0)
some-name P (command.RemoveParameter s j t) k = (s, k.0)
some-name P (command.RenameTemporary m x y) k = (m.class, k.0)
some-name P (command.MoveCode (code.AbstractVariable c x setter given)) k = (c, k.0)
some-name P (command.MoveCode (code.ExtractMethod p t)) k = (p.method.class, k.0)
some-name P (command.MoveCode (code.InlineMethod p)) k = (p.method.class, k.0)
some-name P (command.MoveCode (code.ExtractTemporary p x)) k = (p.method.class, k.0)
some-name P (command.MoveCode (code.InlineTemporary m x)) k = (m.class, k.0)

pub self-known : (names : List (List ℕ)) (c : Command) → CommandNames (λ n. n < length names) (command_of c) → self_in names < length names
self-known names c k = by (number_in names (codes "self")) refl
  where
    by : (o : Option ℕ) → number_in names (codes "self") ≡ o → unwrap_or o 0 < length names
    by None e = let n = some-name (λ n. n < length names) c k in omega (arith, n.1)
    by (Some i) e = (position-Some (text_eq (codes "self")) names i [] e).0
