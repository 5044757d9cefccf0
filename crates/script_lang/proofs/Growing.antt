-- Requests over tables of names that grow.
use Rattle.std.proofs.Common.{◌≡◌, ℕ, ◌<◌, List, [], ◌∷◌, length, map, Option, Some, Result, Ok, Err, get_or, unwrap_or, refl, sym, ap, subst, ◌∙◌, arith, length-append}
use Rattle.std.specs.Prelude.{OnOk, OnErr}
use Rattle.std.specs.List.{AllByRecursion}
use Rattle.std.proofs.lemmas.List.Quantifiers.{position-Some}
use Rattle.std.proofs.lemmas.Option.{slice_get-get_or}
use Rattle.grammar_model.specs.Terminal.{Text}
use Rattle.rb_base.specs.Names.{text_eq, name_at, number_in, interned}
use Rattle.event_trees.specs.Naming.{Grows}
use Rattle.event_trees.proofs.Known.{Grows-none, Grows-Adds, Adds-number, text_of_number, text_stays}
use Rattle.tree_model.specs.Tree.{LiteralOf, TreeOf, literal, map_literal}
use Rattle.tree_model.specs.AllNames.{LiteralNames}
use Rattle.tree_model.proofs.AllNamesLemmas.{map_names-same, map_method-same, AllNames-implies, MethodNames-implies}
use Rattle.st_tree.specs.View.{method_of}
use Rattle.history_model.specs.Rules.{Perform}
use Rattle.session_model.specs.Actions.{Single, CreateAccessors, ExtractSuperclass, PushUpWithMethods}
use Rattle.command_model.specs.Commands.{RenameClass, AddClass, RemoveClass, AddInstVar, RenameInstVar, RemoveInstVar, PushUpInstVar, PushDownInstVar, AddClassVar, RenameClassVar, RemoveClassVar, PushUpClassVar, PushDownClassVar, AddClassSideVar, RenameClassSideVar, RemoveClassSideVar, RenameSelector, AddMethod, RemoveMethod, PushUpMethod, PushDownMethod, AddParameter, RemoveParameter, AbstractInstVar, ExtractMethod, InlineMethod, ExtractTemp, InlineTemp, RenameTemp}
use Rattle.command_numbers.specs.CommandNames.{CommandNames}
use Rattle.command_numbers.specs.MappedCommands.{map_command}
use Rattle.name_meanings.specs.declared.meaning.VariableKind.TheVariants as kind
use Rattle.commands.specs.declared.command.Renaming.TheVariants as renaming
use Rattle.commands.specs.declared.command.VariableMove.TheVariants as move
use Rattle.commands.specs.declared.command.CodeMove.TheVariants as code
use Rattle.commands.specs.declared.command.Command.{Command}
use Rattle.commands.specs.declared.command.Command.TheVariants as command
use Rattle.commands.specs.declared.command.Action.TheVariants as action
use Rattle.commands.specs.declared.command.Request.{Request}
use Rattle.commands.specs.declared.command.Request.TheVariants as request
use Rattle.commands.specs.Views.{command_of, request_in, IsKnownRequest}
use Rattle.pattern_faults.proofs.Said.{pattern_kept, pattern_known}
use Rattle.ruled_model.specs.RuledScripts.{Applies, as_line}
use Rattle.certificates.specs.Asked.{command_in}
use Rattle.script_lang.specs.declared.asked.ScriptLine.{ScriptLine}
use Rattle.script_lang.specs.declared.asked.ScriptLine.TheVariants as script_line
use Rattle.script_lang.specs.Shown.{line_in, IsKnownLine, lines_in, AreKnown}

-- the literal of a node, and another one where it is none
abbrev held-literal : LiteralOf Text → TreeOf Text → LiteralOf Text
held-literal l (literal m) = m
held-literal l t = l

module _ {names later : List Text} (g : Grows names later) where
  -- a number that has a text keeps it
  pub name_at-grown : (n : ℕ) → n < length names → name_at later n ≡ name_at names n
  name_at-grown n h =
      let is = slice_get-get_or names n [] h in
      ap (λ (o : Option Text). unwrap_or o []) (text_stays n (get_or names n []) g is ∙ sym is)

  pub number-grown : (n : ℕ) → n < length names → n < length later
  number-grown n h = omega (arith, h, ap length g.grown, length-append names g.more)

  -- numbers in a list
  pub names-grown : (ns : List ℕ) → AllByRecursion (λ n. n < length names) ns → map (name_at later) ns ≡ map (name_at names) ns
  names-grown [] h = refl
  names-grown (n ∷ ns) h = λ i. name_at-grown n h.0 i ∷ names-grown ns h.1 i

  pub numbers-grown : (ns : List ℕ) → AllByRecursion (λ n. n < length names) ns → AllByRecursion (λ n. n < length later) ns
  numbers-grown [] h = tt
  numbers-grown (n ∷ ns) h = (number-grown n h.0, numbers-grown ns h.1)

  -- a literal
  literal-grown : (l : LiteralOf ℕ) → LiteralNames (λ n. n < length names) l → map_literal (name_at later) l ≡ map_literal (name_at names) l
  literal-grown l h =
      ap (held-literal (map_literal (name_at names) l))
      (map_names-same (name_at later) (name_at names) (literal l) (AllNames-implies (λ k. k < length names) (λ k. name_at later k ≡ name_at names k) name_at-grown (literal l) h))

  -- a command
  command-grown : (c : Command) → CommandNames (λ n. n < length names) (command_of c) → map_command (name_at later) (command_of c) ≡ map_command (name_at names) (command_of c)
  command-grown (command.Rename (renaming.Class c d)) h = λ i. RenameClass (name_at-grown c h.0 i) (name_at-grown d h.1 i)
  command-grown (command.Rename (renaming.Variable kind.Instance c x y)) h = λ i. RenameInstVar (name_at-grown c h.0 i) (name_at-grown x h.1 i) (name_at-grown y h.2 i)
  command-grown (command.Rename (renaming.Variable kind.ClassSide c x y)) h = λ i. RenameClassSideVar (name_at-grown c h.0 i) (name_at-grown x h.1 i) (name_at-grown y h.2 i)
  command-grown (command.Rename (renaming.Variable kind.Shared c x y)) h = λ i. RenameClassVar (name_at-grown c h.0 i) (name_at-grown x h.1 i) (name_at-grown y h.2 i)
  command-grown (command.Rename (renaming.Selector s t)) h = λ i. RenameSelector (name_at-grown s h.0 i) (name_at-grown t h.1 i)
  command-grown (command.RemoveClass c) h = λ i. RemoveClass (name_at-grown c h i)
  command-grown (command.Variable (move.Add kind.Instance c x)) h = λ i. AddInstVar (name_at-grown c h.0 i) (name_at-grown x h.1 i)
  command-grown (command.Variable (move.Add kind.ClassSide c x)) h = λ i. AddClassSideVar (name_at-grown c h.0 i) (name_at-grown x h.1 i)
  command-grown (command.Variable (move.Add kind.Shared c x)) h = λ i. AddClassVar (name_at-grown c h.0 i) (name_at-grown x h.1 i)
  command-grown (command.Variable (move.Remove kind.Instance c x)) h = λ i. RemoveInstVar (name_at-grown c h.0 i) (name_at-grown x h.1 i)
  command-grown (command.Variable (move.Remove kind.ClassSide c x)) h = λ i. RemoveClassSideVar (name_at-grown c h.0 i) (name_at-grown x h.1 i)
  command-grown (command.Variable (move.Remove kind.Shared c x)) h = λ i. RemoveClassVar (name_at-grown c h.0 i) (name_at-grown x h.1 i)
  command-grown (command.Variable (move.InstanceUp c x)) h = λ i. PushUpInstVar (name_at-grown c h.0 i) (name_at-grown x h.1 i)
  command-grown (command.Variable (move.InstanceDown c x)) h = λ i. PushDownInstVar (name_at-grown c h.0 i) (name_at-grown x h.1 i)
  command-grown (command.Variable (move.SharedUp c x)) h = λ i. PushUpClassVar (name_at-grown c h.0 i) (name_at-grown x h.1 i)
  command-grown (command.Variable (move.SharedDown c x d)) h = λ i. PushDownClassVar (name_at-grown c h.0 i) (name_at-grown x h.1 i) (name_at-grown d h.2 i)
  command-grown (command.AddClass n) h = λ i. AddClass (name_at-grown n.name h.0 i) (name_at-grown n.superclass h.1 i) (names-grown n.under h.2 i)
  command-grown (command.AddMethod n) h =
      λ i. AddMethod (name_at-grown n.class h.0 i) n.meta n.protocol n.source (map_method-same (name_at later) (name_at names) (method_of n.tree) (MethodNames-implies (λ k. k < length names) (λ k. name_at later k ≡ name_at names k) name_at-grown (method_of n.tree) h.1) i)
  command-grown (command.RemoveMethod m) h = λ i. RemoveMethod (name_at-grown m.class h.0 i) m.meta (name_at-grown m.selector h.1 i)
  command-grown (command.PushUpMethod m) h = λ i. PushUpMethod (name_at-grown m.class h.0 i) m.meta (name_at-grown m.selector h.1 i)
  command-grown (command.PushDownMethod m) h = λ i. PushDownMethod (name_at-grown m.class h.0 i) m.meta (name_at-grown m.selector h.1 i)
  command-grown (command.AddParameter n) h =
      λ i. AddParameter (name_at-grown n.selector h.0 i) (name_at-grown n.to h.1 i) (name_at-grown n.parameter h.2 i) (literal-grown n.passed h.3 i)
  command-grown (command.RemoveParameter s k t) h = λ i. RemoveParameter (name_at-grown s h.0 i) k (name_at-grown t h.1 i)
  command-grown (command.RenameTemporary m x y) h =
      λ i. RenameTemp (name_at-grown m.class h.0 i) m.meta (name_at-grown m.selector h.1 i) (name_at-grown x h.2 i) (name_at-grown y h.3 i)
  command-grown (command.MoveCode (code.AbstractVariable c x setter parameter)) h =
      λ i. AbstractInstVar (name_at-grown c h.0 i) (name_at-grown x h.1 i) (name_at-grown setter h.2 i) (name_at-grown parameter h.3 i)
  command-grown (command.MoveCode (code.ExtractMethod p t)) h =
      λ i. ExtractMethod (name_at-grown p.method.class h.0 i) p.method.meta (name_at-grown p.method.selector h.1 i) p.from p.to (name_at-grown t h.2 i)
  command-grown (command.MoveCode (code.InlineMethod p)) h =
      λ i. InlineMethod (name_at-grown p.method.class h.0 i) p.method.meta (name_at-grown p.method.selector h.1 i) p.from p.to
  command-grown (command.MoveCode (code.ExtractTemporary p x)) h =
      λ i. ExtractTemp (name_at-grown p.method.class h.0 i) p.method.meta (name_at-grown p.method.selector h.1 i) p.from p.to (name_at-grown x h.2 i)
  command-grown (command.MoveCode (code.InlineTemporary m x)) h =
      λ i. InlineTemp (name_at-grown m.class h.0 i) m.meta (name_at-grown m.selector h.1 i) (name_at-grown x h.2 i)

  command_known-grown : (c : Command) → CommandNames (λ n. n < length names) (command_of c) → CommandNames (λ n. n < length later) (command_of c)
  command_known-grown (command.Rename (renaming.Class c d)) h = (number-grown c h.0, number-grown d h.1)
  command_known-grown (command.Rename (renaming.Variable kind.Instance c x y)) h = (number-grown c h.0, number-grown x h.1, number-grown y h.2)
  command_known-grown (command.Rename (renaming.Variable kind.ClassSide c x y)) h = (number-grown c h.0, number-grown x h.1, number-grown y h.2)
  command_known-grown (command.Rename (renaming.Variable kind.Shared c x y)) h = (number-grown c h.0, number-grown x h.1, number-grown y h.2)
  command_known-grown (command.Rename (renaming.Selector s t)) h = (number-grown s h.0, number-grown t h.1)
  command_known-grown (command.RemoveClass c) h = number-grown c h
  command_known-grown (command.Variable (move.Add kind.Instance c x)) h = (number-grown c h.0, number-grown x h.1)
  command_known-grown (command.Variable (move.Add kind.ClassSide c x)) h = (number-grown c h.0, number-grown x h.1)
  command_known-grown (command.Variable (move.Add kind.Shared c x)) h = (number-grown c h.0, number-grown x h.1)
  command_known-grown (command.Variable (move.Remove kind.Instance c x)) h = (number-grown c h.0, number-grown x h.1)
  command_known-grown (command.Variable (move.Remove kind.ClassSide c x)) h = (number-grown c h.0, number-grown x h.1)
  command_known-grown (command.Variable (move.Remove kind.Shared c x)) h = (number-grown c h.0, number-grown x h.1)
  command_known-grown (command.Variable (move.InstanceUp c x)) h = (number-grown c h.0, number-grown x h.1)
  command_known-grown (command.Variable (move.InstanceDown c x)) h = (number-grown c h.0, number-grown x h.1)
  command_known-grown (command.Variable (move.SharedUp c x)) h = (number-grown c h.0, number-grown x h.1)
  command_known-grown (command.Variable (move.SharedDown c x d)) h = (number-grown c h.0, number-grown x h.1, number-grown d h.2)
  command_known-grown (command.AddClass n) h = (number-grown n.name h.0, number-grown n.superclass h.1, numbers-grown n.under h.2)
  command_known-grown (command.AddMethod n) h = (number-grown n.class h.0, MethodNames-implies (λ k. k < length names) (λ k. k < length later) number-grown (method_of n.tree) h.1)
  command_known-grown (command.RemoveMethod m) h = (number-grown m.class h.0, number-grown m.selector h.1)
  command_known-grown (command.PushUpMethod m) h = (number-grown m.class h.0, number-grown m.selector h.1)
  command_known-grown (command.PushDownMethod m) h = (number-grown m.class h.0, number-grown m.selector h.1)
  command_known-grown (command.AddParameter n) h =
      (number-grown n.selector h.0, number-grown n.to h.1, number-grown n.parameter h.2, AllNames-implies (λ k. k < length names) (λ k. k < length later) number-grown (literal n.passed) h.3)
  command_known-grown (command.RemoveParameter s k t) h = (number-grown s h.0, number-grown t h.1)
  command_known-grown (command.RenameTemporary m x y) h = (number-grown m.class h.0, number-grown m.selector h.1, number-grown x h.2, number-grown y h.3)
  command_known-grown (command.MoveCode (code.AbstractVariable c x setter parameter)) h =
      (number-grown c h.0, number-grown x h.1, number-grown setter h.2, number-grown parameter h.3)
  command_known-grown (command.MoveCode (code.ExtractMethod p t)) h = (number-grown p.method.class h.0, number-grown p.method.selector h.1, number-grown t h.2)
  command_known-grown (command.MoveCode (code.InlineMethod p)) h = (number-grown p.method.class h.0, number-grown p.method.selector h.1)
  command_known-grown (command.MoveCode (code.ExtractTemporary p x)) h = (number-grown p.method.class h.0, number-grown p.method.selector h.1, number-grown x h.2)
  command_known-grown (command.MoveCode (code.InlineTemporary m x)) h = (number-grown m.class h.0, number-grown m.selector h.1, number-grown x h.2)

  -- a request
  pub request-grown : (r : Request) → IsKnownRequest names r → request_in later r ≡ request_in names r
  request-grown (request.Perform (action.Single c)) h = λ i. Perform (Single (command-grown c h i))
  request-grown (request.Perform (action.CreateAccessors c x setter parameter)) h =
      λ i. Perform (CreateAccessors (name_at-grown c h.0 i) (name_at-grown x h.1 i) (name_at-grown setter h.2 i) (name_at-grown parameter h.3 i))
  request-grown (request.Perform (action.ExtractSuperclass n)) h =
      λ i. Perform (ExtractSuperclass (name_at-grown n.name h.0 i) (name_at-grown n.superclass h.1 i) (names-grown n.under h.2 i))
  request-grown (request.Perform (action.PushUpWithMethods c x)) h = λ i. Perform (PushUpWithMethods (name_at-grown c h.0 i) (name_at-grown x h.1 i))
  request-grown request.Undo h = refl
  request-grown request.Redo h = refl

  pub known-grown : (r : Request) → IsKnownRequest names r → IsKnownRequest later r
  known-grown (request.Perform (action.Single c)) h = command_known-grown c h
  known-grown (request.Perform (action.CreateAccessors c x setter parameter)) h =
      (number-grown c h.0, number-grown x h.1, number-grown setter h.2, number-grown parameter h.3)
  known-grown (request.Perform (action.ExtractSuperclass n)) h = (number-grown n.name h.0, number-grown n.superclass h.1, numbers-grown n.under h.2)
  known-grown (request.Perform (action.PushUpWithMethods c x)) h = (number-grown c h.0, number-grown x h.1)
  known-grown request.Undo h = tt
  known-grown request.Redo h = tt

  -- lines
  pub line-grown : (l : ScriptLine) → IsKnownLine names l → line_in later l ≡ line_in names l
  line-grown (script_line.Request r) h = ap as_line (request-grown r h)
  line-grown (script_line.Rule r) h =
      λ i. Perform (Applies (record (command_in names r) { rule = record { pattern = pattern_kept g r.rule.pattern h.0 i; replacement = pattern_kept g r.rule.replacement h.1 i } }))

  pub line_known-grown : (l : ScriptLine) → IsKnownLine names l → IsKnownLine later l
  line_known-grown (script_line.Request r) h = known-grown r h
  line_known-grown (script_line.Rule r) h = (pattern_known g r.rule.pattern h.0, pattern_known g r.rule.replacement h.1)

  pub lines-grown : (ls : List ScriptLine) → AreKnown names ls → lines_in later ls ≡ lines_in names ls
  lines-grown [] h = refl
  lines-grown (l ∷ ls) h = λ i. line-grown l h.0 i ∷ lines-grown ls h.1 i

  pub all_known-grown : (ls : List ScriptLine) → AreKnown names ls → AreKnown later ls
  all_known-grown [] h = tt
  all_known-grown (l ∷ ls) h = (line_known-grown l h.0, all_known-grown ls h.1)

-- a text that was put into a table
pub interned-text : (names : List Text) (t : Text) (n : ℕ) → Some n ≡ number_in names t → name_at names n ≡ t
interned-text names t n e = ap (λ (o : Option Text). unwrap_or o []) (text_of_number names t n e)

pub interned-known : (names : List Text) (t : Text) (n : ℕ) → Some n ≡ number_in names t → n < length names
interned-known names t n e = (position-Some (text_eq t) names n [] (sym e)).0

-- the table after a text was put into it, or could not be
pub either-grows : {E : Type 0} (r : Result ℕ E) (names later : List Text) (t : Text) → OnOk r (later ≡ interned names t) → OnErr r (later ≡ names) → Grows names later
either-grows (Ok n) names later t ok err = Grows-Adds (Adds-number names later t t ok refl)
either-grows (Err e) names later t ok err = subst (Grows names) (sym err) (Grows-none names)
