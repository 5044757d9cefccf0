use Rattle.change_file_laws.proofs.Whole.{changes}
use Rattle.change_file_laws.proofs.laws.makes_the_other_by_text.Goals as goal

pub returns : goal.returns
returns c = λ prelude text kernel i j can root few read.
    changes (record { definition = c.spells_definitions.ensures.definition; class_side = c.spells_definitions.ensures.class_side; comment = c.spells_definitions.ensures.comment }) prelude text kernel i j root can
    (c.law_changes_make.ensures.at_rest kernel i j can root) few read
