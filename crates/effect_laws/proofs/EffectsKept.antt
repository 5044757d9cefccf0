-- Each command keeps images valid, where its conditions hold.
use Rattle.image_model.specs.Image.{ImageOf}
use Rattle.file_model.specs.Filing.{Text}
use Rattle.rename_model.specs.ClassRenamed.{canonical}
use Rattle.command_model.specs.Asked.{text_asked}
use Rattle.command_model.specs.Commands.{CommandOf, RenameClass, AddClass, RemoveClass, AddInstVar, RenameInstVar, RemoveInstVar, PushUpInstVar, PushDownInstVar, AddClassVar, RenameClassVar, RemoveClassVar, PushUpClassVar, PushDownClassVar, AddClassSideVar, RenameClassSideVar, RemoveClassSideVar, RenameSelector, AddMethod, RemoveMethod, PushUpMethod, PushDownMethod, AddParameter, RemoveParameter, RenameTemp, MovesNoCode}
use Rattle.command_model.specs.Effects.{effect}
use Rattle.command_model.specs.Spelled.{IsSpelled}
use Rattle.command_model.specs.AllHold.{AllHold}
use Rattle.effect_laws.proofs.Sound.{IsSound}
use Rattle.effect_laws.proofs.Kernel.{IsWhole}
use Rattle.effect_laws.proofs.ClassesKept.{add_class, remove_class}
use Rattle.effect_laws.proofs.VariablesKept.{add_inst, remove_inst, push_up_inst, push_down_inst, add_shared, remove_shared, push_up_shared, push_down_shared, add_class_side, remove_class_side}
use Rattle.effect_laws.proofs.MethodsKept.{add_method, remove_method, push_up_method, push_down_method}
use Rattle.effect_laws.proofs.TemporariesKept.{temporary_sound}
use Rattle.effect_laws.proofs.RenamesKept.{rename_class, rename_inst, rename_shared, rename_class_side, rename_selector}
use Rattle.effect_laws.proofs.ParameterCommands.{add_parameter, remove_parameter}

module _ (kernel i : ImageOf Text) (s : IsSound kernel i) (whole : IsWhole kernel) where
  pub kept : (command : CommandOf Text) → MovesNoCode command → IsSpelled command → AllHold text_asked i command → IsSound kernel (effect text_asked canonical command i)
  kept (RenameClass c d) shape t h = rename_class kernel i s whole c d h
  kept (AddClass d p under) shape t h = add_class kernel i s whole d p under h
  kept (RemoveClass c) shape t h = remove_class kernel i s whole c h
  kept (AddInstVar c x) shape t h = add_inst kernel i s whole c x h
  kept (RenameInstVar c x y) shape t h = rename_inst kernel i s whole c x y h
  kept (RemoveInstVar c x) shape t h = remove_inst kernel i s whole c x h
  kept (PushUpInstVar c x) shape t h = push_up_inst kernel i s whole c x h
  kept (PushDownInstVar c x) shape t h = push_down_inst kernel i s whole c x h
  kept (AddClassVar c x) shape t h = add_shared kernel i s whole c x h
  kept (RenameClassVar c x y) shape t h = rename_shared kernel i s whole c x y h
  kept (RemoveClassVar c x) shape t h = remove_shared kernel i s whole c x h
  kept (PushUpClassVar c x) shape t h = push_up_shared kernel i s whole c x h
  kept (PushDownClassVar c x d) shape t h = push_down_shared kernel i s whole c x d h
  kept (AddClassSideVar c x) shape t h = add_class_side kernel i s whole c x h
  kept (RenameClassSideVar c x y) shape t h = rename_class_side kernel i s whole c x y h
  kept (RemoveClassSideVar c x) shape t h = remove_class_side kernel i s whole c x h
  kept (RenameSelector o n) shape t h = rename_selector kernel i s whole o n h
  kept (AddMethod c meta protocol text tree) shape t h = add_method kernel i s c meta protocol text tree t h
  kept (RemoveMethod c meta u) shape t h = remove_method kernel i s c meta u h
  kept (PushUpMethod c meta u) shape t h = push_up_method kernel i s c meta u h
  kept (PushDownMethod c meta u) shape t h = push_down_method kernel i s c meta u h
  kept (AddParameter o n x passed) shape t h = add_parameter kernel i s o n x passed t.0 t.1 h
  kept (RemoveParameter o k n) shape t h = remove_parameter kernel i s o k n h
  kept (RenameTemp c meta u x y) shape t h = temporary_sound kernel i s c meta u x y h
  kept command shape t h = absurd shape
