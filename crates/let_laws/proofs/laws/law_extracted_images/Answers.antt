use Rattle.rename_model.specs.ClassRenamed.{canonical}
use Rattle.command_model.specs.Asked.{text_asked}
use Rattle.command_model.specs.Commands.{ExtractTemp}
use Rattle.command_model.proofs.Held.{all-hold}
use Rattle.let_laws.proofs.ValidImages.{names-there}
use Rattle.let_laws.proofs.laws.law_extracted_images.Goals as goal

pub returns : goal.returns
returns g = λ dialect kernel image c meta s from to x valid none.
    let hold = all-hold text_asked image (ExtractTemp c meta s from to x) none in
    g.law_extracted_temporary.ensures.matched canonical image c meta s from to x (names-there image.classes valid.names_may_be_given) valid.methods_once hold.part_is hold.first_evaluated hold.good_name hold.new_name
