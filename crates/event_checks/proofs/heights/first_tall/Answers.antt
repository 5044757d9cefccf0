use Rattle.std.proofs.Common.{List, [], ◌≤◌, length, refl, sym, ap, subst, ◌∙◌}
use Rattle.std.proofs.lemmas.Result.{IfOk-weaker}
use Rattle.parse_events.specs.declared.event.Event.{Event}
use Rattle.event_checks.specs.Heights.{first_tall_in, all_short}
use Rattle.event_checks.proofs.Raised.{raises_all}
use Rattle.event_checks.proofs.Short.{few_statements, all_low}
use Rattle.event_checks.proofs.heights.first_tall.Goals as goal

pub returns-then-are_few : goal.returns-then-are_few
returns-then-are_few c = λ ss g. sym (few_statements ss (subst (λ (es : List Event). length es ≤ 200) g (c.if-are_few.ensures.0 refl)))

pub returns-then-branch : goal.returns-then-branch
returns-then-branch c = λ ss g. sym (all_low ss (ap (all_short 0 200) (sym g) ∙ sym c.in_ok-are_short.ensures ∙ c.if-branch.true))

pub returns : goal.returns
returns c = IfOk-weaker c.tall_in_events.result _ _ (λ b h. λ ss g. h ∙ ap (first_tall_in 0 []) g ∙ raises_all [] ss) c.tall_in_events.ensures
