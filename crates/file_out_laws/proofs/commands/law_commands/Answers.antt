use Rattle.std.proofs.Common.{◌≡◌, None}
use Rattle.mapped_model.specs.RenamedRuns.{RunsAsRenamed}
use Rattle.file_model.specs.Filing.{Text}
use Rattle.rename_model.specs.ClassRenamed.{canonical}
use Rattle.command_model.specs.Asked.{text_asked}
use Rattle.command_model.specs.Commands.{CommandOf, KeepsShape, RenameClass, AddClass, RemoveClass, AddInstVar, RenameInstVar, RemoveInstVar, PushUpInstVar, PushDownInstVar, AddClassVar, RenameClassVar, RemoveClassVar, PushUpClassVar, PushDownClassVar, AddClassSideVar, RenameClassSideVar, RemoveClassSideVar, RenameSelector, AddMethod, RemoveMethod, PushUpMethod, PushDownMethod}
use Rattle.command_model.specs.Effects.{effect}
use Rattle.command_model.specs.Judged.{first_false}
use Rattle.command_model.specs.Renamings.{renaming_of}
use Rattle.command_model.proofs.Held.{all-hold}
use Rattle.variable_laws.specs.OfVariables.{IsOfVariables}
use Rattle.file_out_laws.proofs.commands.law_commands.Goals as goal

pub returns : goal.returns
returns k dialect kernel image command is valid = by command
  where
    of_variables : (command : CommandOf Text) → IsOfVariables command → first_false text_asked image command ≡ None → RunsAsRenamed image (effect text_asked canonical command image) (renaming_of image command)
    of_variables command of none =
        (k.law_variable_commands.ensures canonical image command (k.every_image_may_be_renamed.ensures.instance_once dialect kernel image is valid) (k.every_image_may_be_renamed.ensures.class_side_once dialect kernel image is valid) of none)

    by : (command : CommandOf Text) → KeepsShape command → first_false text_asked image command ≡ None → RunsAsRenamed image (effect text_asked canonical command image) (renaming_of image command)
    by (RenameClass c d) keeps none =
        let hold = all-hold text_asked image (RenameClass c d) none in
        (k.law_renamed_images.ensures.class dialect kernel image c d is valid hold.user_class hold.good_name hold.unused_name)
    by (AddClass d p under) keeps none = k.law_class_commands.ensures.added canonical image d p under (k.every_image_may_be_renamed.ensures.behind_kernel dialect kernel image is valid) none
    by (RemoveClass c) keeps none =
        k.law_class_commands.ensures.removed canonical image c (k.every_image_may_be_renamed.ensures.behind_kernel dialect kernel image is valid).ordered (k.every_image_has_kernel_chains.ensures dialect kernel image is valid) none
    by (AddInstVar c x) keeps none = of_variables (AddInstVar c x) tt none
    by (RenameInstVar c x y) keeps none = of_variables (RenameInstVar c x y) tt none
    by (RemoveInstVar c x) keeps none = of_variables (RemoveInstVar c x) tt none
    by (PushUpInstVar c x) keeps none = of_variables (PushUpInstVar c x) tt none
    by (PushDownInstVar c x) keeps none = of_variables (PushDownInstVar c x) tt none
    by (AddClassVar c x) keeps none = of_variables (AddClassVar c x) tt none
    by (RenameClassVar c x y) keeps none = of_variables (RenameClassVar c x y) tt none
    by (RemoveClassVar c x) keeps none = of_variables (RemoveClassVar c x) tt none
    by (PushUpClassVar c x) keeps none = of_variables (PushUpClassVar c x) tt none
    by (PushDownClassVar c x d) keeps none = of_variables (PushDownClassVar c x d) tt none
    by (AddClassSideVar c x) keeps none = of_variables (AddClassSideVar c x) tt none
    by (RenameClassSideVar c x y) keeps none = of_variables (RenameClassSideVar c x y) tt none
    by (RemoveClassSideVar c x) keeps none = of_variables (RemoveClassSideVar c x) tt none
    by (RenameSelector s t) keeps none =
        let hold = all-hold text_asked image (RenameSelector s t) none in
        (k.law_renamed_images.ensures.selector dialect kernel image s t is valid hold.old_not_kernel hold.new_not_kernel hold.fresh_selector)
    by (AddMethod c meta protocol text tree) keeps none = k.law_method_images.ensures.added dialect kernel image c meta protocol text tree is valid none
    by (RemoveMethod c meta s) keeps none = k.law_method_images.ensures.removed dialect kernel image c meta s is valid none
    by (PushUpMethod c meta s) keeps none = k.law_method_images.ensures.pushed_up dialect kernel image c meta s is valid none
    by (PushDownMethod c meta s) keeps none = k.law_method_images.ensures.pushed_down dialect kernel image c meta s is valid none
    by command keeps none = absurd keeps
