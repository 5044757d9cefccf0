use Rattle.std.proofs.Common.{◌||◌, not, ◌∙◌, sym}
use Rattle.st_kernel.specs.Selectors.{reflective_selectors}
use Rattle.code_questions.specs.declared.question.Way.TheVariants as way
use Rattle.conditions.specs.Reflection.{reflective_names, is_one_found}
use Rattle.conditions.proofs.Reflecting.{reflection-told}
use Rattle.conditions.proofs.reflection.has_no_reflection.Goals as goal

pub returns-then-has : goal.returns-then-has
returns-then-has g c =
    let s = c.args.image.now in
    let has = sym c.if-has.true ∙ c.in_ok-has.ensures in
    (λ j. not (has j || (is_one_found s way.Sent reflective_selectors || is_one_found s way.Used reflective_names))) ∙ reflection-told s c.requires.orderly

pub returns-then-sends : goal.returns-then-sends
returns-then-sends g c =
    let s = c.args.image.now in
    let has = sym c.if-has.false ∙ c.in_ok-has.ensures in
    let sends = sym c.if-sends.true ∙ c.in_ok-sends.ensures in
    (λ j. not (has j || (sends j || is_one_found s way.Used reflective_names))) ∙ reflection-told s c.requires.orderly

pub returns : goal.returns
returns g c =
    let s = c.args.image.now in
    let has = sym c.if-has.false ∙ c.in_ok-has.ensures in
    let sends = sym c.if-sends.false ∙ c.in_ok-sends.ensures in
    let uses = c.in_ok-uses.ensures in
    (λ j. not (has j || (sends j || uses j))) ∙ reflection-told s c.requires.orderly
