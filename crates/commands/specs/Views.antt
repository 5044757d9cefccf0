-- What commands and conditions of the program stand for, over the numbers of names.
use Rattle.std.specs.Prelude.{◌≡◌, ℕ, ◌<◌, List, length, codes, unwrap_or}
use Rattle.rb_base.specs.Names.{name_at, number_in}
use Rattle.st_tree.specs.View.{method_of}
use Rattle.image_model.specs.Means.{VariableKind, of_instance, of_class_side, of_class}
use Rattle.command_model.specs.Commands.{CommandOf, RenameClass, AddClass, RemoveClass, AddInstVar, RenameInstVar, RemoveInstVar, PushUpInstVar, PushDownInstVar, AddClassVar, RenameClassVar, RemoveClassVar, PushUpClassVar, PushDownClassVar, AddClassSideVar, RenameClassSideVar, RemoveClassSideVar, RenameSelector, AddMethod, RemoveMethod, PushUpMethod, PushDownMethod, AddParameter, RemoveParameter, AbstractInstVar, ExtractMethod, InlineMethod, ExtractTemp, InlineTemp, RenameTemp}
use Rattle.command_model.specs.Conditions.{NameKind, of_a_class, of_a_class_variable, of_another_variable, of_methods, ConditionOf, NoReflection, IsUserClass, GoodName, NameUnused, SelectorFresh, NotKernelSelector, Arity, Implements, NotImplements, Removable, NoSubclasses, NotReferenced, HasVariable, VariableFree, VariableUnused, ParentIsUser, NoSuper, MeansSame, Unreached, ParameterUnused, PlainArguments, AtomLiteral, PartIs, NoReturn, AssignsNoOuter, TempsSteady, ValueUnused, SelfSend, OneTarget, Inlinable, PlainActuals, SpotOf, AtPart, AtName, NoCapture, NoNewControl, Declared, NotIn, LetForm, FirstEvaluated, Shallow, IsClass, ChildOf, LacksVariable, KnownSelector, UndoLeft, RedoLeft}
use Rattle.command_model.specs.Asked.{AskedOf}
use Rattle.command_model.specs.PartsOfText.{parts_of_text}
use Rattle.command_model.specs.Numbers.{number_asked}
use Rattle.history_model.specs.Rules.{RequestOf, Perform, Undo, Redo}
use Rattle.session_model.specs.Actions.{ActionOf, Single, CreateAccessors, ExtractSuperclass, PushUpWithMethods}
use Rattle.name_meanings.specs.Meanings.{kind_of}
use Rattle.commands.specs.Actions.{map_action, ActionNames}
use Rattle.commands.specs.declared.command.Renaming.{Renaming}
use Rattle.commands.specs.declared.command.Renaming.TheVariants as renaming
use Rattle.commands.specs.declared.command.VariableMove.{VariableMove}
use Rattle.commands.specs.declared.command.VariableMove.TheVariants as move
use Rattle.commands.specs.declared.command.CodeMove.{CodeMove}
use Rattle.commands.specs.declared.command.CodeMove.TheVariants as code
use Rattle.commands.specs.declared.command.Command.{Command}
use Rattle.commands.specs.declared.command.Command.TheVariants as command
use Rattle.commands.specs.declared.command.Action.{Action}
use Rattle.commands.specs.declared.command.Action.TheVariants as action
use Rattle.commands.specs.declared.command.Request.{Request}
use Rattle.commands.specs.declared.command.Request.TheVariants as request
use Rattle.commands.specs.declared.condition.NameKind as declared
use Rattle.commands.specs.declared.condition.NameKind.TheVariants as kind
use Rattle.commands.specs.declared.condition.Spot.{Spot}
use Rattle.commands.specs.declared.condition.Spot.TheVariants as declared_spot
use Rattle.commands.specs.declared.condition.Condition.{Condition}
use Rattle.commands.specs.declared.condition.Condition.TheVariants as condition

-- the renaming, the addition and the removal of a variable of a kind
abbrev pub renames_variable : VariableKind → (c x y : ℕ) → CommandOf ℕ
renames_variable of_instance c x y = RenameInstVar c x y
renames_variable of_class_side c x y = RenameClassSideVar c x y
renames_variable of_class c x y = RenameClassVar c x y

abbrev pub adds_variable : VariableKind → (c x : ℕ) → CommandOf ℕ
adds_variable of_instance c x = AddInstVar c x
adds_variable of_class_side c x = AddClassSideVar c x
adds_variable of_class c x = AddClassVar c x

abbrev pub removes_variable : VariableKind → (c x : ℕ) → CommandOf ℕ
removes_variable of_instance c x = RemoveInstVar c x
removes_variable of_class_side c x = RemoveClassSideVar c x
removes_variable of_class c x = RemoveClassVar c x

-- the command by which something gets another name
abbrev pub renaming_command : Renaming → CommandOf ℕ
renaming_command (renaming.Class c d) = RenameClass c d
renaming_command (renaming.Variable kind c x y) = renames_variable (kind_of kind) c x y
renaming_command (renaming.Selector s t) = RenameSelector s t

-- the command by which a variable comes or goes
abbrev pub move_command : VariableMove → CommandOf ℕ
move_command (move.Add kind c x) = adds_variable (kind_of kind) c x
move_command (move.Remove kind c x) = removes_variable (kind_of kind) c x
move_command (move.InstanceUp c x) = PushUpInstVar c x
move_command (move.InstanceDown c x) = PushDownInstVar c x
move_command (move.SharedUp c x) = PushUpClassVar c x
move_command (move.SharedDown c x d) = PushDownClassVar c x d

-- the command by which code moves
abbrev pub code_command : CodeMove → CommandOf ℕ
code_command (code.AbstractVariable c x setter parameter) = AbstractInstVar c x setter parameter
code_command (code.ExtractMethod p t) = ExtractMethod p.method.class p.method.meta p.method.selector p.from p.to t
code_command (code.InlineMethod p) = InlineMethod p.method.class p.method.meta p.method.selector p.from p.to
code_command (code.ExtractTemporary p x) = ExtractTemp p.method.class p.method.meta p.method.selector p.from p.to x
code_command (code.InlineTemporary m x) = InlineTemp m.class m.meta m.selector x

-- the command
abbrev pub command_of : Command → CommandOf ℕ
command_of (command.Rename r) = renaming_command r
command_of (command.AddClass n) = AddClass n.name n.superclass n.under
command_of (command.RemoveClass c) = RemoveClass c
command_of (command.Variable m) = move_command m
command_of (command.AddMethod n) = AddMethod n.class n.meta n.protocol n.source (method_of n.tree)
command_of (command.RemoveMethod m) = RemoveMethod m.class m.meta m.selector
command_of (command.PushUpMethod m) = PushUpMethod m.class m.meta m.selector
command_of (command.PushDownMethod m) = PushDownMethod m.class m.meta m.selector
command_of (command.AddParameter n) = AddParameter n.selector n.to n.parameter n.passed
command_of (command.RemoveParameter s k t) = RemoveParameter s k t
command_of (command.RenameTemporary m x y) = RenameTemp m.class m.meta m.selector x y
command_of (command.MoveCode m) = code_command m

-- the action
abbrev pub action_of : Action → ActionOf ℕ
action_of (action.Single c) = Single (command_of c)
action_of (action.CreateAccessors c x setter parameter) = CreateAccessors c x setter parameter
action_of (action.ExtractSuperclass n) = ExtractSuperclass n.name n.superclass n.under
action_of (action.PushUpWithMethods c x) = PushUpWithMethods c x

-- what is asked for
abbrev pub request_of : Request → RequestOf (ActionOf ℕ)
request_of (request.Perform a) = Perform (action_of a)
request_of request.Undo = Undo
request_of request.Redo = Redo

-- what a new name is for
abbrev pub name_kind_of : declared.NameKind → NameKind
name_kind_of kind.Class = of_a_class
name_kind_of kind.ClassVariable = of_a_class_variable
name_kind_of kind.Variable = of_another_variable
name_kind_of kind.Selector = of_methods

-- where code is put
abbrev pub spot_of : Spot → SpotOf ℕ
spot_of (declared_spot.Part from to) = AtPart from to
spot_of (declared_spot.Name x) = AtName x

-- the condition
abbrev pub condition_of : Condition → ConditionOf ℕ
condition_of condition.NoReflection = NoReflection
condition_of (condition.IsUserClass c) = IsUserClass c
condition_of (condition.GoodName n kind) = GoodName n (name_kind_of kind)
condition_of (condition.NameUnused n) = NameUnused n
condition_of (condition.SelectorFresh s) = SelectorFresh s
condition_of (condition.NotKernelSelector s) = NotKernelSelector s
condition_of (condition.Arity s count) = Arity s count
condition_of (condition.Implements m) = Implements m.class m.meta m.selector
condition_of (condition.NotImplements m) = NotImplements m.class m.meta m.selector
condition_of (condition.Removable m) = Removable m.class m.meta m.selector
condition_of (condition.NoSubclasses c) = NoSubclasses c
condition_of (condition.NotReferenced c) = NotReferenced c
condition_of (condition.HasVariable c x) = HasVariable c x
condition_of (condition.VariableFree c x) = VariableFree c x
condition_of (condition.VariableUnused c x) = VariableUnused c x
condition_of (condition.ParentIsUser c) = ParentIsUser c
condition_of (condition.NoSuper m) = NoSuper m.class m.meta m.selector
condition_of (condition.MeansSame m d) = MeansSame m.class m.meta m.selector d
condition_of (condition.Unreached s) = Unreached s
condition_of (condition.ParameterUnused s k) = ParameterUnused s k
condition_of (condition.PlainArguments s k) = PlainArguments s k
condition_of condition.AtomLiteral = AtomLiteral
condition_of (condition.PartIs p) = PartIs p.method.class p.method.meta p.method.selector p.from p.to
condition_of (condition.NoReturn p) = NoReturn p.method.class p.method.meta p.method.selector p.from p.to
condition_of (condition.AssignsNoOuter p) = AssignsNoOuter p.method.class p.method.meta p.method.selector p.from p.to
condition_of (condition.TempsSteady p) = TempsSteady p.method.class p.method.meta p.method.selector p.from p.to
condition_of (condition.ValueUnused p) = ValueUnused p.method.class p.method.meta p.method.selector p.from p.to
condition_of (condition.SelfSend p) = SelfSend p.method.class p.method.meta p.method.selector p.from p.to
condition_of (condition.OneTarget m) = OneTarget m.class m.meta m.selector
condition_of (condition.Inlinable m) = Inlinable m.class m.meta m.selector
condition_of (condition.PlainActuals p) = PlainActuals p.method.class p.method.meta p.method.selector p.from p.to
condition_of (condition.NoCapture m spot) = NoCapture m.class m.meta m.selector (spot_of spot)
condition_of (condition.NoNewControl m spot) = NoNewControl m.class m.meta m.selector (spot_of spot)
condition_of (condition.Declared m x) = Declared m.class m.meta m.selector x
condition_of (condition.NotIn m x) = NotIn m.class m.meta m.selector x
condition_of (condition.LetForm m x) = LetForm m.class m.meta m.selector x
condition_of (condition.FirstEvaluated p) = FirstEvaluated p.method.class p.method.meta p.method.selector p.from p.to
condition_of condition.Shallow = Shallow
condition_of (condition.IsClass c) = IsClass c
condition_of (condition.ChildOf d c) = ChildOf d c
condition_of (condition.LacksVariable c x) = LacksVariable c x
condition_of (condition.KnownSelector s) = KnownSelector s
condition_of condition.UndoLeft = UndoLeft
condition_of condition.RedoLeft = RedoLeft

-- the number of the name `self` in a table that has it
abbrev pub self_in : List (List ℕ) → ℕ
self_in names = unwrap_or (number_in names (codes "self")) 0

-- whether a table has it
abbrev pub HasSelf : List (List ℕ) → Type 0
HasSelf names = (self_in names < length names) × (name_at names (self_in names) ≡ codes "self")

-- what commands ask of the names of a table
abbrev pub asked_by : List (List ℕ) → AskedOf ℕ
asked_by names = number_asked names (self_in names) parts_of_text

-- each name of what is asked for is in the table
abbrev pub IsKnownRequest : List (List ℕ) → Request → Type 0
IsKnownRequest names (request.Perform a) = ActionNames (λ n. n < length names) (action_of a)
IsKnownRequest names request.Undo = Unit {0}
IsKnownRequest names request.Redo = Unit {0}

-- what is asked for, over the texts of the names
abbrev pub request_in : List (List ℕ) → Request → RequestOf (ActionOf (List ℕ))
request_in names (request.Perform a) = Perform (map_action (name_at names) (action_of a))
request_in names request.Undo = Undo
request_in names request.Redo = Redo
