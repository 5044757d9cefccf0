use Rattle.std.proofs.Common.{◌≡◌, None}
use Rattle.std.specs.Prelude.{not}
use Rattle.rb_base.specs.Names.{text_eq}
use Rattle.run_model.specs.Values.{Name}
use Rattle.run_model.proofs.Finite.{and-true_left, and-true_right}
use Rattle.mapped_model.specs.RenamedRuns.{RunsAsRenamed}
use Rattle.rename_model.specs.CommandWords.{may_be_declared, begins_upper}
use Rattle.rename_laws.proofs.GoodNames.{proper-name}
use Rattle.command_model.specs.Asked.{text_asked}
use Rattle.command_model.specs.Hierarchy.{is_class}
use Rattle.command_model.specs.Commands.{CommandOf, RenameClass, AddClass, RemoveClass, AddInstVar, RenameInstVar, RemoveInstVar, PushUpInstVar, PushDownInstVar, AddClassVar, RenameClassVar, RemoveClassVar, PushUpClassVar, PushDownClassVar, AddClassSideVar, RenameClassSideVar, RemoveClassSideVar, RenameSelector, AddMethod, RemoveMethod, PushUpMethod, PushDownMethod, AddParameter, RemoveParameter, AbstractInstVar, ExtractMethod, InlineMethod, ExtractTemp, InlineTemp, RenameTemp}
use Rattle.command_model.specs.Effects.{effect}
use Rattle.command_model.specs.Judged.{first_false}
use Rattle.command_model.specs.Renamings.{renaming_of}
use Rattle.command_model.proofs.Held.{all-hold}
use Rattle.variable_laws.specs.KernelDoIts.{HasKernelDoIts}
use Rattle.variable_laws.specs.OfVariables.{IsOfVariables}
use Rattle.variable_laws.proofs.laws.law_variable_commands.Goals as goal

pub returns : goal.returns
returns k writing i command instance class_side = by command
  where
    kernel : HasKernelDoIts i
    kernel = record { ordered = instance.ordered; doits = instance.doits }

    by : (command : CommandOf Name) → IsOfVariables command → first_false text_asked i command ≡ None → RunsAsRenamed i (effect text_asked writing command i) (renaming_of i command)
    by (RenameClass c d) of none = absurd of
    by (AddClass d p under) of none = absurd of
    by (RemoveClass c) of none = absurd of
    by (AddInstVar c x) of none = k.law_own_variables.ensures.added writing i c x kernel none
    by (RenameInstVar c x y) of none =
        let hold = all-hold text_asked i (RenameInstVar c x y) none in
        k.law_renamed_variable_of.ensures.instance writing i c x y instance hold.user_class hold.has_variable (and-true_right (is_class text_eq i c) _ hold.free_variable) (proper-name y (and-true_left (may_be_declared y) (not (begins_upper y)) hold.good_name))
    by (RemoveInstVar c x) of none = k.law_own_variables.ensures.removed writing i c x kernel none
    by (PushUpInstVar c x) of none = k.law_own_variables.ensures.pushed_up writing i c x kernel none
    by (PushDownInstVar c x) of none = k.law_own_variables.ensures.pushed_down writing i c x kernel none
    by (AddClassVar c x) of none = k.law_class_variables.ensures.added writing i c x kernel none
    by (RenameClassVar c x y) of none =
        let hold = all-hold text_asked i (RenameClassVar c x y) none in
        k.law_renamed_variable_of.ensures.shared writing i c x y hold.unused_name (proper-name y (and-true_left (may_be_declared y) (begins_upper y) hold.good_name))
    by (RemoveClassVar c x) of none = k.law_class_variables.ensures.removed writing i c x kernel none
    by (PushUpClassVar c x) of none = k.law_class_variables.ensures.pushed_up writing i c x kernel none
    by (PushDownClassVar c x d) of none = k.law_class_variables.ensures.pushed_down writing i c x d kernel none
    by (AddClassSideVar c x) of none = k.law_own_variables.ensures.class_side_added writing i c x kernel none
    by (RenameClassSideVar c x y) of none =
        let hold = all-hold text_asked i (RenameClassSideVar c x y) none in
        k.law_renamed_variable_of.ensures.class_side writing i c x y class_side hold.user_class hold.has_variable (and-true_right (is_class text_eq i c) _ hold.free_variable) (proper-name y (and-true_left (may_be_declared y) (not (begins_upper y)) hold.good_name))
    by (RemoveClassSideVar c x) of none = k.law_own_variables.ensures.class_side_removed writing i c x kernel none
    by (RenameSelector s t) of none = absurd of
    by (AddMethod c meta protocol text tree) of none = absurd of
    by (RemoveMethod c meta s) of none = absurd of
    by (PushUpMethod c meta s) of none = absurd of
    by (PushDownMethod c meta s) of none = absurd of
    by (AddParameter s t x passed) of none = absurd of
    by (RemoveParameter s k t) of none = absurd of
    by (AbstractInstVar c x setter given) of none = absurd of
    by (ExtractMethod c meta s from to t) of none = absurd of
    by (InlineMethod c meta s from to) of none = absurd of
    by (ExtractTemp c meta s from to x) of none = absurd of
    by (InlineTemp c meta s x) of none = absurd of
    by (RenameTemp c meta s x y) of none = absurd of
