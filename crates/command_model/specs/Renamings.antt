-- What a command renames, read over the image in which it is judged.
use Rattle.std.specs.Prelude.{[], ◌∷◌}
use Rattle.std.specs.Option.{option_map_or}
use Rattle.rb_base.specs.Names.{text_eq}
use Rattle.image_model.specs.Image.{ImageOf}
use Rattle.image_model.specs.Means.{of_instance, of_class_side, of_class}
use Rattle.run_model.specs.Values.{Name}
use Rattle.run_model.specs.Renamings.{Renaming, no_renaming, IsComposite}
use Rattle.rename_model.specs.OneRenamed.{one_selector, one_variable, one_temporary}
use Rattle.command_model.specs.Commands.{CommandOf, RenameClass, AddClass, RemoveClass, AddInstVar, RenameInstVar, RemoveInstVar, PushUpInstVar, PushDownInstVar, AddClassVar, RenameClassVar, RemoveClassVar, PushUpClassVar, PushDownClassVar, AddClassSideVar, RenameClassSideVar, RemoveClassSideVar, RenameSelector, AddMethod, RemoveMethod, PushUpMethod, PushDownMethod, AddParameter, RemoveParameter, AbstractInstVar, ExtractMethod, InlineMethod, ExtractTemp, InlineTemp, RenameTemp}
use Rattle.command_model.specs.Hierarchy.{superclass_name}

-- of a class
abbrev pub one_class : (old new : Name) → Renaming
one_class old new = record no_renaming { classes = (old, new) ∷ [] }

-- of the class variable of a class that becomes one of another class
abbrev pub one_moved : (c x d : Name) → Renaming
one_moved c x d = record no_renaming { shared = ((c, x), (d, x)) ∷ [] }

abbrev pub renaming_of : ImageOf Name → CommandOf Name → Renaming
renaming_of i (RenameClass c d) = one_class c d
renaming_of i (AddClass d p under) = no_renaming
renaming_of i (RemoveClass c) = no_renaming
renaming_of i (AddInstVar c x) = no_renaming
renaming_of i (RenameInstVar c x y) = one_variable i of_instance c x y
renaming_of i (RemoveInstVar c x) = no_renaming
renaming_of i (PushUpInstVar c x) = no_renaming
renaming_of i (PushDownInstVar c x) = no_renaming
renaming_of i (AddClassVar c x) = no_renaming
renaming_of i (RenameClassVar c x y) = one_variable i of_class c x y
renaming_of i (RemoveClassVar c x) = no_renaming
renaming_of i (PushUpClassVar c x) = option_map_or (one_moved c x) (superclass_name text_eq i c) no_renaming
renaming_of i (PushDownClassVar c x d) = one_moved c x d
renaming_of i (AddClassSideVar c x) = no_renaming
renaming_of i (RenameClassSideVar c x y) = one_variable i of_class_side c x y
renaming_of i (RemoveClassSideVar c x) = no_renaming
renaming_of i (RenameSelector s t) = one_selector s t
renaming_of i (AddMethod c meta protocol text tree) = no_renaming
renaming_of i (RemoveMethod c meta s) = no_renaming
renaming_of i (PushUpMethod c meta s) = no_renaming
renaming_of i (PushDownMethod c meta s) = no_renaming
renaming_of i (AddParameter s t x passed) = one_selector s t
renaming_of i (RemoveParameter s k t) = one_selector s t
renaming_of i (AbstractInstVar c x setter given) = no_renaming
renaming_of i (ExtractMethod c meta s from to t) = no_renaming
renaming_of i (InlineMethod c meta s from to) = no_renaming
renaming_of i (ExtractTemp c meta s from to x) = no_renaming
renaming_of i (InlineTemp c meta s x) = no_renaming
renaming_of i (RenameTemp c meta s x y) = one_temporary c meta s x y

-- the second renaming says of each thing what the first one says, however long its lists are
abbrev pub SaysTheSame : Renaming → Renaming → Type 0
SaysTheSame r q = IsComposite r no_renaming q
