use Rattle.std.proofs.Common.{◌∙◌}
use Rattle.event_trees.proofs.Known.{Grows-twice}
use Rattle.file_reading.proofs.Growing.{name_at-grown, number-grown, names-grown, numbers-grown, option-grown, option_number-grown}
use Rattle.file_reading.proofs.said.definition_of.Goals as goal

pub returns-clause-text : goal.returns-clause-text
returns-clause-text c =
    let shared = c.in_ok-shared.ensures.grows in
    let instance = Grows-twice c.in_ok-instance.ensures.grows shared in
    let name = Grows-twice c.in_ok-name.ensures.grows instance in
    λ i. record {
      name = (name_at-grown instance c.in_ok-name.name c.in_ok-name.ensures.known ∙ c.in_ok-name.ensures.text) i;
      superclass = (option-grown name c.in_ok-superclass.superclass c.in_ok-superclass.ensures.known ∙ c.in_ok-superclass.ensures.text) i;
      instance = (names-grown shared c.in_ok-instance.instance c.in_ok-instance.ensures.known ∙ c.in_ok-instance.ensures.words) i;
      shared = c.in_ok-shared.ensures.words i;
      category = c.in_ok-category.ensures i;
    }

pub returns-clause-known : goal.returns-clause-known
returns-clause-known c =
    let shared = c.in_ok-shared.ensures.grows in
    let instance = Grows-twice c.in_ok-instance.ensures.grows shared in
    let name = Grows-twice c.in_ok-name.ensures.grows instance in
    record {
      name = number-grown instance c.in_ok-name.name c.in_ok-name.ensures.known;
      superclass = option_number-grown name c.in_ok-superclass.superclass c.in_ok-superclass.ensures.known;
      instance = numbers-grown shared c.in_ok-instance.instance c.in_ok-instance.ensures.known;
      shared = c.in_ok-shared.ensures.known;
    }
