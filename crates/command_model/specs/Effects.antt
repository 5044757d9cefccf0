-- What each command makes of an image.
use Rattle.std.specs.Prelude.{unwrap_or}
use Rattle.image_model.specs.Image.{ImageOf}
use Rattle.image_model.specs.Means.{of_instance, of_class, of_class_side}
use Rattle.rename_model.specs.ClassRenamed.{WritingOf, class_renamed}
use Rattle.rename_model.specs.SelectorRenamed.{selector_renamed}
use Rattle.rename_model.specs.VariableRenamed.{variable_renamed}
use Rattle.command_model.specs.Commands.{CommandOf, RenameClass, AddClass, RemoveClass, AddInstVar, RenameInstVar, RemoveInstVar, PushUpInstVar, PushDownInstVar, AddClassVar, RenameClassVar, RemoveClassVar, PushUpClassVar, PushDownClassVar, AddClassSideVar, RenameClassSideVar, RemoveClassSideVar, RenameSelector, AddMethod, RemoveMethod, PushUpMethod, PushDownMethod}
use Rattle.command_model.specs.Asked.{AskedOf}
use Rattle.command_model.specs.ClassEffects.{class_added, class_removed}
use Rattle.command_model.specs.VariableEffects.{variable_added, variable_removed, instance_pushed_up, instance_pushed_down, shared_moved, shared_pushed_up}
use Rattle.command_model.specs.MethodEffects.{method_added, method_removed, method_pushed_up, method_pushed_down}
use Rattle.command_model.specs.CodeEffects.{code_effect}

-- the image after a command; the source of a changed tree is how it is written. The last line is of the commands that change code: where a method or part that one of them names is not there, the image stays
abbrev pub effect : {N : Type 0} → AskedOf N → WritingOf N → CommandOf N → ImageOf N → ImageOf N
effect a writing (RenameClass c d) i = class_renamed a.words writing i c d
effect a writing (AddClass d p under) i = class_added a.words.tests.same d p under i
effect a writing (RemoveClass c) i = class_removed a.words.tests.same c i
effect a writing (AddInstVar c x) i = variable_added a.words.tests.same of_instance c x i
effect a writing (RenameInstVar c x y) i = variable_renamed a.words writing i of_instance c x y
effect a writing (RemoveInstVar c x) i = variable_removed a.words.tests.same of_instance c x i
effect a writing (PushUpInstVar c x) i = instance_pushed_up a.words.tests.same c x i
effect a writing (PushDownInstVar c x) i = instance_pushed_down a.words.tests.same c x i
effect a writing (AddClassVar c x) i = variable_added a.words.tests.same of_class c x i
effect a writing (RenameClassVar c x y) i = variable_renamed a.words writing i of_class c x y
effect a writing (RemoveClassVar c x) i = variable_removed a.words.tests.same of_class c x i
effect a writing (PushUpClassVar c x) i = shared_pushed_up a.words.tests.same c x i
effect a writing (PushDownClassVar c x d) i = shared_moved a.words.tests.same c x d i
effect a writing (AddClassSideVar c x) i = variable_added a.words.tests.same of_class_side c x i
effect a writing (RenameClassSideVar c x y) i = variable_renamed a.words writing i of_class_side c x y
effect a writing (RemoveClassSideVar c x) i = variable_removed a.words.tests.same of_class_side c x i
effect a writing (RenameSelector s t) i = selector_renamed a.words.tests.same writing i s t
effect a writing (AddMethod c meta protocol text tree) i = method_added c meta protocol text tree i
effect a writing (RemoveMethod c meta s) i = method_removed a.words.tests.same c meta s i
effect a writing (PushUpMethod c meta s) i = method_pushed_up a.words.tests.same c meta s i
effect a writing (PushDownMethod c meta s) i = method_pushed_down a.words.tests.same c meta s i
effect a writing command i = unwrap_or (code_effect a i writing command) i
