use Rattle.std.proofs.Common.{ap, ◌∙◌}
use Rattle.command_model.specs.Plain.{literal_node}
use Rattle.std.specs.List.{remove}
use Rattle.parameter_plans.proofs.Passed.{passes-one_more, passes-one_less}
use Rattle.parameter_plans.proofs.given.ParameterChange.pass.Goals as goal

pub returns-in_ok-push-in-Added : goal.returns-in_ok-push-in-Added
returns-in_ok-push-in-Added c =
    passes-one_more c.args.self.now c.in-Added.new c.args.arguments.now c.push.new.self c.literal_node.result c.in-Added.is (c.literal_node.ensures ∙ ap literal_node c.in_ok-try_copy-in-Added.ensures) c.in_ok-push-in-Added.ensures.ok

pub returns-in-Removed : goal.returns-in-Removed
returns-in-Removed c =
    passes-one_less c.args.self.now c.in-Removed.selector c.in-Removed.argument c.in-Removed.to c.args.arguments.now c.from_vec.result c.in-Removed.is
    (c.from_vec.ensures ∙ c.drop_at.ensures ∙ (λ j. remove ((c.into_vec-items.ensures ∙ c.replace.ensures.value) j) (c.saturating_sub.ensures j)))
