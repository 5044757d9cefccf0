use Rattle.rename_model.specs.ClassRenamed.{canonical}
use Rattle.command_model.specs.Asked.{text_asked}
use Rattle.command_model.specs.Commands.{RenameTemp}
use Rattle.command_model.proofs.Held.{all-hold}
use Rattle.file_out_laws.proofs.temporaries.law_renamed_temporaries.Goals as goal

pub returns-clause-image_where : goal.returns-clause-image_where
returns-clause-image_where k dialect kernel image c meta s x y is valid good new =
    k.law_renamed_temporary.ensures.matched canonical image c meta s x y (k.every_image_may_be_renamed.ensures.behind_kernel dialect kernel image is valid) valid.methods_once good new

pub returns-clause-file_where : goal.returns-clause-file_where
returns-clause-file_where k dialect text image c meta s x y is good new =
    let valid = k.every_image_is_valid.ensures.valid dialect text is.kernel image is.is_kernel is in
    k.law_renamed_temporary.ensures.matched canonical image c meta s x y (k.every_image_may_be_renamed.ensures.behind_kernel dialect is.kernel image is.is_kernel valid) valid.methods_once good new

pub returns-clause-image : goal.returns-clause-image
returns-clause-image k dialect kernel image c meta s x y is valid none =
    let hold = all-hold text_asked image (RenameTemp c meta s x y) none in
    returns-clause-image_where k dialect kernel image c meta s x y is valid hold.good_name hold.new_name

pub returns-clause-file : goal.returns-clause-file
returns-clause-file k dialect text image c meta s x y is none =
    let hold = all-hold text_asked image (RenameTemp c meta s x y) none in
    returns-clause-file_where k dialect text image c meta s x y is hold.good_name hold.new_name
