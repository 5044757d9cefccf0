-- All conditions of a command hold.
use Rattle.image_model.specs.Image.{ImageOf}
use Rattle.command_model.specs.Commands.{CommandOf, RenameClass, AddClass, RemoveClass, AddInstVar, RenameInstVar, RemoveInstVar, PushUpInstVar, PushDownInstVar, AddClassVar, RenameClassVar, RemoveClassVar, PushUpClassVar, PushDownClassVar, AddClassSideVar, RenameClassSideVar, RemoveClassSideVar, RenameSelector, AddMethod, RemoveMethod, PushUpMethod, PushDownMethod, AddParameter, RemoveParameter, AbstractInstVar, ExtractMethod, InlineMethod, ExtractTemp, InlineTemp, RenameTemp}
use Rattle.command_model.specs.Asked.{AskedOf}
use Rattle.command_model.specs.Allowed.{MayRenameClass, MayAddClass, MayRemoveClass, MayAddVariable, MayRenameVariable, MayRemoveVariable, MayPushUpVariable, MayAddClassVariable, MayRenameClassVariable, MayPushDownClassVariable, MayRenameSelector, MayAddMethod, MayRemoveMethod, MayPushUpMethod, MayPushDownMethod}
use Rattle.command_model.specs.CodeAllowed.{MayAddParameter, MayRemoveParameter, MayAbstractVariable, MayExtractMethod, MayInlineMethod, MayExtractTemporary, MayInlineTemporary, MayRenameTemporary}

-- each condition of the command holds in the image
abbrev pub AllHold : {N : Type 0} → AskedOf N → ImageOf N → CommandOf N → Type 0
AllHold a i (RenameClass c d) = MayRenameClass a i (RenameClass c d) c d
AllHold a i (AddClass d p under) = MayAddClass a i (AddClass d p under) d p under
AllHold a i (RemoveClass c) = MayRemoveClass a i (RemoveClass c) c
AllHold a i (AddInstVar c x) = MayAddVariable a i (AddInstVar c x) c x
AllHold a i (RenameInstVar c x y) = MayRenameVariable a i (RenameInstVar c x y) c x y
AllHold a i (RemoveInstVar c x) = MayRemoveVariable a i (RemoveInstVar c x) c x
AllHold a i (PushUpInstVar c x) = MayPushUpVariable a i (PushUpInstVar c x) c x
AllHold a i (PushDownInstVar c x) = MayRemoveVariable a i (PushDownInstVar c x) c x
AllHold a i (AddClassVar c x) = MayAddClassVariable a i (AddClassVar c x) c x
AllHold a i (RenameClassVar c x y) = MayRenameClassVariable a i (RenameClassVar c x y) c x y
AllHold a i (RemoveClassVar c x) = MayRemoveVariable a i (RemoveClassVar c x) c x
AllHold a i (PushUpClassVar c x) = MayPushUpVariable a i (PushUpClassVar c x) c x
AllHold a i (PushDownClassVar c x d) = MayPushDownClassVariable a i (PushDownClassVar c x d) c x d
AllHold a i (AddClassSideVar c x) = MayAddVariable a i (AddClassSideVar c x) c x
AllHold a i (RenameClassSideVar c x y) = MayRenameVariable a i (RenameClassSideVar c x y) c x y
AllHold a i (RemoveClassSideVar c x) = MayRemoveVariable a i (RemoveClassSideVar c x) c x
AllHold a i (RenameSelector s t) = MayRenameSelector a i (RenameSelector s t) s t
AllHold a i (AddMethod c meta protocol text tree) = MayAddMethod a i (AddMethod c meta protocol text tree) c meta tree.selector
AllHold a i (RemoveMethod c meta s) = MayRemoveMethod a i (RemoveMethod c meta s) c meta s
AllHold a i (PushUpMethod c meta s) = MayPushUpMethod a i (PushUpMethod c meta s) c meta s
AllHold a i (PushDownMethod c meta s) = MayPushDownMethod a i (PushDownMethod c meta s) c meta s
AllHold a i (AddParameter s t x passed) = MayAddParameter a i (AddParameter s t x passed) s t x
AllHold a i (RemoveParameter s k t) = MayRemoveParameter a i (RemoveParameter s k t) s k t
AllHold a i (AbstractInstVar c x setter given) = MayAbstractVariable a i (AbstractInstVar c x setter given) c x setter
AllHold a i (ExtractMethod c meta s from to t) = MayExtractMethod a i (ExtractMethod c meta s from to t) c meta s from to t
AllHold a i (InlineMethod c meta s from to) = MayInlineMethod a i (InlineMethod c meta s from to) c meta s from to
AllHold a i (ExtractTemp c meta s from to x) = MayExtractTemporary a i (ExtractTemp c meta s from to x) c meta s from to x
AllHold a i (InlineTemp c meta s x) = MayInlineTemporary a i (InlineTemp c meta s x) c meta s x
AllHold a i (RenameTemp c meta s x y) = MayRenameTemporary a i (RenameTemp c meta s x y) c meta s x y
