use Rattle.std.proofs.Common.{not, ap, ◌∙◌}
use Rattle.code_questions.proofs.AtPlaces.{listed-any}
use Rattle.code_conditions.specs.HighCode.{is_method_high, is_doit_high}
use Rattle.code_conditions.proofs.HighInImage.{only-methods, only-doits, none-high}
use Rattle.code_conditions.proofs.abstracted.is_shallow_abstracted.Goals as goal

pub returns : goal.returns
returns g c =
    let s = c.args.image.now in
    let a = c.args.abstraction.now in
    ap not
    (c.in_ok-high.ensures
    ∙ listed-any (is_method_high s a) (is_doit_high s a) s a.variable (only-methods s a) (only-doits s a) c.args.index.now c.listed-places.result.now c.requires.index c.listed-places.ensures)
    ∙ none-high s a c.requires.self_name
