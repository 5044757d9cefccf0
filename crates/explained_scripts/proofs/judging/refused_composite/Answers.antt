use Rattle.std.proofs.Common.{length, map, Option, Some, None, sym, ap, ◌∙◌}
use Rattle.std.specs.Prelude.{option_map, IfSome}
use Rattle.std.proofs.lemmas.Result.{IfOk-weaker}
use Rattle.rb_base.specs.Names.{name_at}
use Rattle.query_model.specs.Lines.{Text}
use Rattle.class_table.specs.View.{image_of}
use Rattle.command_model.specs.Commands.{CommandOf}
use Rattle.command_numbers.specs.MappedCommands.{map_condition}
use Rattle.commands.specs.Actions.{map_action}
use Rattle.commands.specs.Views.{action_of, condition_of}
use Rattle.commands.specs.declared.condition.Condition.{Condition}
use Rattle.ruled_model.specs.RuledScripts.{Plainly}
use Rattle.explained_scripts.specs.declared.judging.Refused.{Refused}
use Rattle.explained_scripts.proofs.RefusedSteps.{refused-own, refused-by-step, is-composite, no-single, steps-are}
use Rattle.explained_scripts.proofs.judging.refused_composite.Goals as goal

-- what is found, if something is
some-weaker : (P Q : Refused → Type 0) → ((r : Refused) → P r → Q r) → (o : Option Refused) → IfSome o P → IfSome o Q
some-weaker P Q f None h = h
some-weaker P Q f (Some r) h = f r h

pub returns-in-Some-clause-found : goal.returns-in-Some-clause-found
returns-in-Some-clause-found g c =
    let s = c.args.image.now in
    let x = action_of c.args.action in
    refused-own s x c.stands_for-command.result c.in-Some.condition c.requires.known (c.stands_for-command.ensures.names (length s.names) c.requires.known) (c.stands_for-command.ensures.texts (name_at s.names))
    (is-composite (image_of s) (map_action (name_at s.names) x) (no-single (name_at s.names) c.args.action c.requires.composite))
    (sym c.in_ok-condition.ensures.numbers ∙ ap (λ (o : Option Condition). option_map condition_of o) c.in-Some.is)
    (sym c.in_ok-condition.ensures.texts ∙ ap (λ (o : Option Condition). option_map (map_condition (name_at s.names)) (option_map condition_of o)) c.in-Some.is)

pub returns-clause-found : goal.returns-clause-found
returns-clause-found g c =
    let s = c.args.image.now in
    let x = map_action (name_at s.names) (action_of c.args.action) in
    IfOk-weaker c.refused_step.result _ _
    (λ found h. some-weaker _ _
    (λ r step. refused-by-step (image_of s) x _ r (is-composite (image_of s) x (no-single (name_at s.names) c.args.action c.requires.composite))
    (sym c.in_ok-condition.ensures.texts ∙ ap (λ (o : Option Condition). option_map (map_condition (name_at s.names)) (option_map condition_of o)) c.in_default.is)
    _ (steps-are s c.in_ok-commands.commands.items ∙ ap (map (λ (k : CommandOf Text). Plainly k)) c.in_ok-commands.ensures.commands) step) found h)
    c.refused_step.ensures.found
