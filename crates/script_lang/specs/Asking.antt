-- What commands do with the names behind their words.
use Rattle.std.specs.Prelude.{Bool}
use Rattle.command_model.specs.Commands.{CommandOf, RenameClass, AddInstVar, RenameInstVar, RemoveInstVar, PushUpInstVar, PushDownInstVar, AddClassVar, RenameClassVar, RemoveClassVar, PushUpClassVar, PushDownClassVar, AddClassSideVar, RenameClassSideVar, RemoveClassSideVar, RemoveMethod, PushUpMethod, PushDownMethod, AbstractInstVar}
use Rattle.session_model.specs.Actions.{ActionOf, Single, CreateAccessors, PushUpWithMethods}
use Rattle.name_meanings.specs.declared.meaning.VariableKind.{VariableKind}
use Rattle.name_meanings.specs.declared.meaning.VariableKind.TheVariants as kind
use Rattle.script_lang.specs.declared.verb.PairVerb.{PairVerb}
use Rattle.script_lang.specs.declared.verb.PairVerb.TheVariants as pair
use Rattle.script_lang.specs.declared.verb.TripleVerb.{TripleVerb}
use Rattle.script_lang.specs.declared.verb.TripleVerb.TheVariants as triple
use Rattle.script_lang.specs.declared.verb.MethodVerb.{MethodVerb}
use Rattle.script_lang.specs.declared.verb.MethodVerb.TheVariants as method
use Rattle.script_lang.specs.declared.verb.AccessorVerb.{AccessorVerb}
use Rattle.script_lang.specs.declared.verb.AccessorVerb.TheVariants as accessor

-- a variable of a kind comes, gets another name or goes
abbrev pub adds : {N : Type 0} → VariableKind → N → N → CommandOf N
adds kind.Instance c x = AddInstVar c x
adds kind.ClassSide c x = AddClassSideVar c x
adds kind.Shared c x = AddClassVar c x

abbrev pub renames : {N : Type 0} → VariableKind → N → N → N → CommandOf N
renames kind.Instance c x y = RenameInstVar c x y
renames kind.ClassSide c x y = RenameClassSideVar c x y
renames kind.Shared c x y = RenameClassVar c x y

abbrev pub removes : {N : Type 0} → VariableKind → N → N → CommandOf N
removes kind.Instance c x = RemoveInstVar c x
removes kind.ClassSide c x = RemoveClassSideVar c x
removes kind.Shared c x = RemoveClassVar c x

-- what a command does with a class and another name
abbrev pub pair_action : {N : Type 0} → PairVerb → N → N → ActionOf N
pair_action pair.RenameClass c d = Single (RenameClass c d)
pair_action (pair.AddVariable k) c x = Single (adds k c x)
pair_action (pair.RemoveVariable k) c x = Single (removes k c x)
pair_action pair.InstanceUp c x = Single (PushUpInstVar c x)
pair_action pair.InstanceDown c x = Single (PushDownInstVar c x)
pair_action pair.SharedUp c x = Single (PushUpClassVar c x)
pair_action pair.UpWithMethods c x = PushUpWithMethods c x

-- what it does with a class, a variable and another name
abbrev pub triple_command : {N : Type 0} → TripleVerb → N → N → N → CommandOf N
triple_command (triple.RenameVariable k) c x y = renames k c x y
triple_command triple.SharedDown c x d = PushDownClassVar c x d

-- what it does with a method
abbrev pub method_command : {N : Type 0} → MethodVerb → N → Bool → N → CommandOf N
method_command method.Remove c meta s = RemoveMethod c meta s
method_command method.PushUp c meta s = PushUpMethod c meta s
method_command method.PushDown c meta s = PushDownMethod c meta s

-- what it does with a class, a variable, the selector of its setter and what that one's argument is called
abbrev pub accessor_action : {N : Type 0} → AccessorVerb → (c x setter parameter : N) → ActionOf N
accessor_action accessor.Create c x setter parameter = CreateAccessors c x setter parameter
accessor_action accessor.Abstract c x setter parameter = Single (AbstractInstVar c x setter parameter)
