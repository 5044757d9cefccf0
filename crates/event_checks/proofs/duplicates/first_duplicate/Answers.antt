use Rattle.std.proofs.Common.{[], sym, ap, ◌∙◌}
use Rattle.std.proofs.lemmas.Result.{IfOk-weaker}
use Rattle.grammar_model.specs.Checks.{first_repeat}
use Rattle.event_checks.specs.Duplicates.{first_duplicate_in}
use Rattle.event_checks.proofs.Lists.{list_is, first_chosen, second_chosen}
use Rattle.event_checks.proofs.Repeats.{repeats_all}
use Rattle.event_checks.proofs.duplicates.first_duplicate.Goals as goal

pub returns-then-is_some : goal.returns-then-is_some
returns-then-is_some c = λ ps ds ss e f g.
    first_chosen c.in_ok-repeat.repeat _ _ (sym c.is_some.ensures ∙ c.if-is_some.true) (c.in_ok-repeat.ensures ∙ ap (first_repeat []) (list_is c.args.arguments.now c.args.temporaries.now ps ds e f))

pub returns : goal.returns
returns c =
    IfOk-weaker c.repeat_in_events.result _ _
    (λ b h. λ ps ds ss e f g.
    second_chosen c.in_ok-repeat.repeat b _ _ (sym c.is_some.ensures ∙ c.if-is_some.false) (c.in_ok-repeat.ensures ∙ ap (first_repeat []) (list_is c.args.arguments.now c.args.temporaries.now ps ds e f))
    (h ∙ ap first_duplicate_in g ∙ repeats_all ss))
    c.repeat_in_events.ensures
