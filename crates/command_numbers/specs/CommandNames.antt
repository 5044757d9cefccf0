-- A fact of each name in a command and in a condition.
use Rattle.std.specs.List.{AllByRecursion}
use Rattle.tree_model.specs.AllNames.{LiteralNames, MethodNames}
use Rattle.command_model.specs.Commands.{CommandOf, RenameClass, AddClass, RemoveClass, AddInstVar, RenameInstVar, RemoveInstVar, PushUpInstVar, PushDownInstVar, AddClassVar, RenameClassVar, RemoveClassVar, PushUpClassVar, PushDownClassVar, AddClassSideVar, RenameClassSideVar, RemoveClassSideVar, RenameSelector, AddMethod, RemoveMethod, PushUpMethod, PushDownMethod, AddParameter, RemoveParameter, AbstractInstVar, ExtractMethod, InlineMethod, ExtractTemp, InlineTemp, RenameTemp}
use Rattle.command_model.specs.Conditions.{SpotOf, AtPart, AtName, ConditionOf, NoReflection, IsUserClass, GoodName, NameUnused, SelectorFresh, NotKernelSelector, Arity, Implements, NotImplements, Removable, NoSubclasses, NotReferenced, HasVariable, VariableFree, VariableUnused, ParentIsUser, NoSuper, MeansSame, Unreached, IsClass, ChildOf, LacksVariable, KnownSelector, ParameterUnused, PlainArguments, AtomLiteral, PartIs, NoReturn, AssignsNoOuter, TempsSteady, ValueUnused, SelfSend, OneTarget, Inlinable, PlainActuals, NoCapture, NoNewControl, Declared, NotIn, LetForm, FirstEvaluated, Shallow, UndoLeft, RedoLeft}

-- of each name in a command
abbrev pub CommandNames : {N : Type 0} → (N → Type 0) → CommandOf N → Type 0
CommandNames P (RenameClass c d) = P c × P d
CommandNames P (AddClass d p under) = P d × P p × AllByRecursion P under
CommandNames P (RemoveClass c) = P c
CommandNames P (AddInstVar c x) = P c × P x
CommandNames P (RenameInstVar c x y) = P c × P x × P y
CommandNames P (RemoveInstVar c x) = P c × P x
CommandNames P (PushUpInstVar c x) = P c × P x
CommandNames P (PushDownInstVar c x) = P c × P x
CommandNames P (AddClassVar c x) = P c × P x
CommandNames P (RenameClassVar c x y) = P c × P x × P y
CommandNames P (RemoveClassVar c x) = P c × P x
CommandNames P (PushUpClassVar c x) = P c × P x
CommandNames P (PushDownClassVar c x d) = P c × P x × P d
CommandNames P (AddClassSideVar c x) = P c × P x
CommandNames P (RenameClassSideVar c x y) = P c × P x × P y
CommandNames P (RemoveClassSideVar c x) = P c × P x
CommandNames P (RenameSelector s t) = P s × P t
CommandNames P (AddMethod c meta protocol text tree) = P c × MethodNames P tree
CommandNames P (RemoveMethod c meta s) = P c × P s
CommandNames P (PushUpMethod c meta s) = P c × P s
CommandNames P (PushDownMethod c meta s) = P c × P s
CommandNames P (AddParameter s t x passed) = P s × P t × P x × LiteralNames P passed
CommandNames P (RemoveParameter s k t) = P s × P t
CommandNames P (AbstractInstVar c x setter given) = P c × P x × P setter × P given
CommandNames P (ExtractMethod c meta s from to t) = P c × P s × P t
CommandNames P (InlineMethod c meta s from to) = P c × P s
CommandNames P (ExtractTemp c meta s from to x) = P c × P s × P x
CommandNames P (InlineTemp c meta s x) = P c × P s × P x
CommandNames P (RenameTemp c meta s x y) = P c × P s × P x × P y

-- of the name of a spot
abbrev pub SpotNames : {N : Type 0} → (N → Type 0) → SpotOf N → Type 0
SpotNames P (AtPart from to) = Unit {0}
SpotNames P (AtName x) = P x

-- of each name in a condition
abbrev pub ConditionNames : {N : Type 0} → (N → Type 0) → ConditionOf N → Type 0
ConditionNames P NoReflection = Unit {0}
ConditionNames P (IsUserClass c) = P c
ConditionNames P (GoodName n kind) = P n
ConditionNames P (NameUnused n) = P n
ConditionNames P (SelectorFresh s) = P s
ConditionNames P (NotKernelSelector s) = P s
ConditionNames P (Arity t count) = P t
ConditionNames P (Implements c meta s) = P c × P s
ConditionNames P (NotImplements c meta s) = P c × P s
ConditionNames P (Removable c meta s) = P c × P s
ConditionNames P (NoSubclasses c) = P c
ConditionNames P (NotReferenced c) = P c
ConditionNames P (HasVariable c x) = P c × P x
ConditionNames P (VariableFree c x) = P c × P x
ConditionNames P (VariableUnused c x) = P c × P x
ConditionNames P (ParentIsUser c) = P c
ConditionNames P (NoSuper c meta s) = P c × P s
ConditionNames P (MeansSame c meta s d) = P c × P s × P d
ConditionNames P (Unreached s) = P s
ConditionNames P (IsClass c) = P c
ConditionNames P (ChildOf d c) = P d × P c
ConditionNames P (LacksVariable c x) = P c × P x
ConditionNames P (KnownSelector s) = P s
ConditionNames P (ParameterUnused s k) = P s
ConditionNames P (PlainArguments s k) = P s
ConditionNames P AtomLiteral = Unit {0}
ConditionNames P (PartIs c meta s from to) = P c × P s
ConditionNames P (NoReturn c meta s from to) = P c × P s
ConditionNames P (AssignsNoOuter c meta s from to) = P c × P s
ConditionNames P (TempsSteady c meta s from to) = P c × P s
ConditionNames P (ValueUnused c meta s from to) = P c × P s
ConditionNames P (SelfSend c meta s from to) = P c × P s
ConditionNames P (OneTarget c meta s) = P c × P s
ConditionNames P (Inlinable c meta s) = P c × P s
ConditionNames P (PlainActuals c meta s from to) = P c × P s
ConditionNames P (NoCapture c meta s spot) = P c × P s × SpotNames P spot
ConditionNames P (NoNewControl c meta s spot) = P c × P s × SpotNames P spot
ConditionNames P (Declared c meta s x) = P c × P s × P x
ConditionNames P (NotIn c meta s x) = P c × P s × P x
ConditionNames P (LetForm c meta s x) = P c × P s × P x
ConditionNames P (FirstEvaluated c meta s from to) = P c × P s
ConditionNames P Shallow = Unit {0}
ConditionNames P UndoLeft = Unit {0}
ConditionNames P RedoLeft = Unit {0}
