use Rattle.change_file_laws.proofs.Whole.{reads_on}
use Rattle.change_file_laws.proofs.laws.reads_edits.Goals as goal

pub returns : goal.returns
returns c = λ es f image t left blanks stated settled made blank rest.
    reads_on (record { definition = c.spells_definitions.ensures.definition; class_side = c.spells_definitions.ensures.class_side; comment = c.spells_definitions.ensures.comment }) es f image t left blanks stated settled made blank rest
