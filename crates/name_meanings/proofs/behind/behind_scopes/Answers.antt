use Rattle.std.proofs.Common.{length, ap, sym, ◌∙◌}
use Rattle.std.specs.Prelude.{nat_eq}
use Rattle.std.specs.Option.{option_and_then}
use Rattle.image_model.specs.Words.{number_words}
use Rattle.image_model.specs.Chain.{superclass_of}
use Rattle.image_model.specs.Means.{means_along, means_outside}
use Rattle.image_model.proofs.UpwardsLemmas.{upwards-none}
use Rattle.class_table.specs.View.{class_name, number_image}
use Rattle.name_meanings.proofs.behind.behind_scopes.Goals as goal

pub returns-in-None : goal.returns-in-None
returns-in-None c =
    let words = number_words c.args.image.now.names in
    let image = number_image c.args.image.now in
    c.global.ensures
    ∙ sym (ap (λ above. means_along words image.classes above c.args.meta c.args.name) (upwards-none (superclass_of nat_eq image.classes) (length image.classes)))
    ∙ ap (λ o. means_outside words image (option_and_then (class_name c.args.image.now.classes) o) c.args.meta c.args.name) (sym c.in-None.is)
