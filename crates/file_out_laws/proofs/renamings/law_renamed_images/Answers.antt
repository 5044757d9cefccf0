use Rattle.std.specs.Prelude.{not}
use Rattle.run_model.proofs.Finite.{and-true_left}
use Rattle.rename_model.specs.CommandWords.{may_be_declared, begins_upper}
use Rattle.rename_laws.proofs.GoodNames.{proper-name}
use Rattle.rename_model.specs.ClassRenamed.{canonical}
use Rattle.file_out_laws.proofs.renamings.law_renamed_images.Goals as goal

pub returns-clause-class : goal.returns-clause-class
returns-clause-class k dialect kernel image c d is valid user good unused =
    k.law_renamed_class.ensures.matched canonical image c d (k.every_image_may_be_renamed.ensures.behind_kernel dialect kernel image is valid) user good unused

pub returns-clause-selector : goal.returns-clause-selector
returns-clause-selector k dialect kernel image s t is valid old new fresh = k.law_renamed_selector.ensures.by_command canonical image s t old new fresh

pub returns-clause-instance : goal.returns-clause-instance
returns-clause-instance k dialect kernel image c x y is valid user has good free =
    k.law_renamed_variable_of.ensures.instance canonical image c x y (k.every_image_may_be_renamed.ensures.instance_once dialect kernel image is valid) user has free (proper-name y (and-true_left (may_be_declared y) (not (begins_upper y)) good))

pub returns-clause-class_side : goal.returns-clause-class_side
returns-clause-class_side k dialect kernel image c x y is valid user has good free =
    k.law_renamed_variable_of.ensures.class_side canonical image c x y (k.every_image_may_be_renamed.ensures.class_side_once dialect kernel image is valid) user has free (proper-name y (and-true_left (may_be_declared y) (not (begins_upper y)) good))

pub returns-clause-shared : goal.returns-clause-shared
returns-clause-shared k dialect kernel image c x y is valid good unused =
    k.law_renamed_variable_of.ensures.shared canonical image c x y unused (proper-name y (and-true_left (may_be_declared y) (begins_upper y) good))
