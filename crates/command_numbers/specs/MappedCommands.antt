-- Commands and conditions with each name changed.
use Rattle.std.specs.Prelude.{map}
use Rattle.tree_model.specs.Tree.{map_literal, map_method}
use Rattle.command_model.specs.Commands.{CommandOf, RenameClass, AddClass, RemoveClass, AddInstVar, RenameInstVar, RemoveInstVar, PushUpInstVar, PushDownInstVar, AddClassVar, RenameClassVar, RemoveClassVar, PushUpClassVar, PushDownClassVar, AddClassSideVar, RenameClassSideVar, RemoveClassSideVar, RenameSelector, AddMethod, RemoveMethod, PushUpMethod, PushDownMethod, AddParameter, RemoveParameter, AbstractInstVar, ExtractMethod, InlineMethod, ExtractTemp, InlineTemp, RenameTemp}
use Rattle.command_model.specs.Conditions.{SpotOf, AtPart, AtName, ConditionOf, NoReflection, IsUserClass, GoodName, NameUnused, SelectorFresh, NotKernelSelector, Arity, Implements, NotImplements, Removable, NoSubclasses, NotReferenced, HasVariable, VariableFree, VariableUnused, ParentIsUser, NoSuper, MeansSame, Unreached, IsClass, ChildOf, LacksVariable, KnownSelector, ParameterUnused, PlainArguments, AtomLiteral, PartIs, NoReturn, AssignsNoOuter, TempsSteady, ValueUnused, SelfSend, OneTarget, Inlinable, PlainActuals, NoCapture, NoNewControl, Declared, NotIn, LetForm, FirstEvaluated, Shallow, UndoLeft, RedoLeft}

-- the same command with each name changed
abbrev pub map_command : {M N : Type 0} → (M → N) → CommandOf M → CommandOf N
map_command f (RenameClass c d) = RenameClass (f c) (f d)
map_command f (AddClass d p under) = AddClass (f d) (f p) (map f under)
map_command f (RemoveClass c) = RemoveClass (f c)
map_command f (AddInstVar c x) = AddInstVar (f c) (f x)
map_command f (RenameInstVar c x y) = RenameInstVar (f c) (f x) (f y)
map_command f (RemoveInstVar c x) = RemoveInstVar (f c) (f x)
map_command f (PushUpInstVar c x) = PushUpInstVar (f c) (f x)
map_command f (PushDownInstVar c x) = PushDownInstVar (f c) (f x)
map_command f (AddClassVar c x) = AddClassVar (f c) (f x)
map_command f (RenameClassVar c x y) = RenameClassVar (f c) (f x) (f y)
map_command f (RemoveClassVar c x) = RemoveClassVar (f c) (f x)
map_command f (PushUpClassVar c x) = PushUpClassVar (f c) (f x)
map_command f (PushDownClassVar c x d) = PushDownClassVar (f c) (f x) (f d)
map_command f (AddClassSideVar c x) = AddClassSideVar (f c) (f x)
map_command f (RenameClassSideVar c x y) = RenameClassSideVar (f c) (f x) (f y)
map_command f (RemoveClassSideVar c x) = RemoveClassSideVar (f c) (f x)
map_command f (RenameSelector s t) = RenameSelector (f s) (f t)
map_command f (AddMethod c meta protocol text tree) = AddMethod (f c) meta protocol text (map_method f tree)
map_command f (RemoveMethod c meta s) = RemoveMethod (f c) meta (f s)
map_command f (PushUpMethod c meta s) = PushUpMethod (f c) meta (f s)
map_command f (PushDownMethod c meta s) = PushDownMethod (f c) meta (f s)
map_command f (AddParameter s t x passed) = AddParameter (f s) (f t) (f x) (map_literal f passed)
map_command f (RemoveParameter s k t) = RemoveParameter (f s) k (f t)
map_command f (AbstractInstVar c x setter given) = AbstractInstVar (f c) (f x) (f setter) (f given)
map_command f (ExtractMethod c meta s from to t) = ExtractMethod (f c) meta (f s) from to (f t)
map_command f (InlineMethod c meta s from to) = InlineMethod (f c) meta (f s) from to
map_command f (ExtractTemp c meta s from to x) = ExtractTemp (f c) meta (f s) from to (f x)
map_command f (InlineTemp c meta s x) = InlineTemp (f c) meta (f s) (f x)
map_command f (RenameTemp c meta s x y) = RenameTemp (f c) meta (f s) (f x) (f y)

-- the same spot with its name changed
abbrev pub map_spot : {M N : Type 0} → (M → N) → SpotOf M → SpotOf N
map_spot f (AtPart from to) = AtPart from to
map_spot f (AtName x) = AtName (f x)

-- the same condition with each name changed
abbrev pub map_condition : {M N : Type 0} → (M → N) → ConditionOf M → ConditionOf N
map_condition f NoReflection = NoReflection
map_condition f (IsUserClass c) = IsUserClass (f c)
map_condition f (GoodName n kind) = GoodName (f n) kind
map_condition f (NameUnused n) = NameUnused (f n)
map_condition f (SelectorFresh s) = SelectorFresh (f s)
map_condition f (NotKernelSelector s) = NotKernelSelector (f s)
map_condition f (Arity t count) = Arity (f t) count
map_condition f (Implements c meta s) = Implements (f c) meta (f s)
map_condition f (NotImplements c meta s) = NotImplements (f c) meta (f s)
map_condition f (Removable c meta s) = Removable (f c) meta (f s)
map_condition f (NoSubclasses c) = NoSubclasses (f c)
map_condition f (NotReferenced c) = NotReferenced (f c)
map_condition f (HasVariable c x) = HasVariable (f c) (f x)
map_condition f (VariableFree c x) = VariableFree (f c) (f x)
map_condition f (VariableUnused c x) = VariableUnused (f c) (f x)
map_condition f (ParentIsUser c) = ParentIsUser (f c)
map_condition f (NoSuper c meta s) = NoSuper (f c) meta (f s)
map_condition f (MeansSame c meta s d) = MeansSame (f c) meta (f s) (f d)
map_condition f (Unreached s) = Unreached (f s)
map_condition f (IsClass c) = IsClass (f c)
map_condition f (ChildOf d c) = ChildOf (f d) (f c)
map_condition f (LacksVariable c x) = LacksVariable (f c) (f x)
map_condition f (KnownSelector s) = KnownSelector (f s)
map_condition f (ParameterUnused s k) = ParameterUnused (f s) k
map_condition f (PlainArguments s k) = PlainArguments (f s) k
map_condition f AtomLiteral = AtomLiteral
map_condition f (PartIs c meta s from to) = PartIs (f c) meta (f s) from to
map_condition f (NoReturn c meta s from to) = NoReturn (f c) meta (f s) from to
map_condition f (AssignsNoOuter c meta s from to) = AssignsNoOuter (f c) meta (f s) from to
map_condition f (TempsSteady c meta s from to) = TempsSteady (f c) meta (f s) from to
map_condition f (ValueUnused c meta s from to) = ValueUnused (f c) meta (f s) from to
map_condition f (SelfSend c meta s from to) = SelfSend (f c) meta (f s) from to
map_condition f (OneTarget c meta s) = OneTarget (f c) meta (f s)
map_condition f (Inlinable c meta s) = Inlinable (f c) meta (f s)
map_condition f (PlainActuals c meta s from to) = PlainActuals (f c) meta (f s) from to
map_condition f (NoCapture c meta s spot) = NoCapture (f c) meta (f s) (map_spot f spot)
map_condition f (NoNewControl c meta s spot) = NoNewControl (f c) meta (f s) (map_spot f spot)
map_condition f (Declared c meta s x) = Declared (f c) meta (f s) (f x)
map_condition f (NotIn c meta s x) = NotIn (f c) meta (f s) (f x)
map_condition f (LetForm c meta s x) = LetForm (f c) meta (f s) (f x)
map_condition f (FirstEvaluated c meta s from to) = FirstEvaluated (f c) meta (f s) from to
map_condition f Shallow = Shallow
map_condition f UndoLeft = UndoLeft
map_condition f RedoLeft = RedoLeft
