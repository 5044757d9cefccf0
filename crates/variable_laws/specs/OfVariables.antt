-- The commands that concern the variables of classes.
use Rattle.command_model.specs.Commands.{CommandOf, RenameClass, AddClass, RemoveClass, AddInstVar, RenameInstVar, RemoveInstVar, PushUpInstVar, PushDownInstVar, AddClassVar, RenameClassVar, RemoveClassVar, PushUpClassVar, PushDownClassVar, AddClassSideVar, RenameClassSideVar, RemoveClassSideVar, RenameSelector, AddMethod, RemoveMethod, PushUpMethod, PushDownMethod, AddParameter, RemoveParameter, AbstractInstVar, ExtractMethod, InlineMethod, ExtractTemp, InlineTemp, RenameTemp}

-- a command renames, adds, removes or moves a variable of a class
abbrev pub IsOfVariables : {N : Type 0} → CommandOf N → Type 0
IsOfVariables (RenameClass c d) = ⊥
IsOfVariables (AddClass d p under) = ⊥
IsOfVariables (RemoveClass c) = ⊥
IsOfVariables (AddInstVar c x) = Unit {0}
IsOfVariables (RenameInstVar c x y) = Unit {0}
IsOfVariables (RemoveInstVar c x) = Unit {0}
IsOfVariables (PushUpInstVar c x) = Unit {0}
IsOfVariables (PushDownInstVar c x) = Unit {0}
IsOfVariables (AddClassVar c x) = Unit {0}
IsOfVariables (RenameClassVar c x y) = Unit {0}
IsOfVariables (RemoveClassVar c x) = Unit {0}
IsOfVariables (PushUpClassVar c x) = Unit {0}
IsOfVariables (PushDownClassVar c x d) = Unit {0}
IsOfVariables (AddClassSideVar c x) = Unit {0}
IsOfVariables (RenameClassSideVar c x y) = Unit {0}
IsOfVariables (RemoveClassSideVar c x) = Unit {0}
IsOfVariables (RenameSelector s t) = ⊥
IsOfVariables (AddMethod c meta protocol text tree) = ⊥
IsOfVariables (RemoveMethod c meta s) = ⊥
IsOfVariables (PushUpMethod c meta s) = ⊥
IsOfVariables (PushDownMethod c meta s) = ⊥
IsOfVariables (AddParameter s t x passed) = ⊥
IsOfVariables (RemoveParameter s k t) = ⊥
IsOfVariables (AbstractInstVar c x setter given) = ⊥
IsOfVariables (ExtractMethod c meta s from to t) = ⊥
IsOfVariables (InlineMethod c meta s from to) = ⊥
IsOfVariables (ExtractTemp c meta s from to x) = ⊥
IsOfVariables (InlineTemp c meta s x) = ⊥
IsOfVariables (RenameTemp c meta s x y) = ⊥
