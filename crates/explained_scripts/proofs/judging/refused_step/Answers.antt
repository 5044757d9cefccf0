use Rattle.std.proofs.Common.{◌≡◌, ℕ, ◌+◌, ◌<◌, suc, List, ◌∷◌, length, map, Option, Some, sym, ap, subst, ◌∙◌, arith}
use Rattle.std.specs.Prelude.{option_map}
use Rattle.std.specs.List.{AllByRecursion}
use Rattle.std.specs.Vec.Iter.{into_iter_items}
use Rattle.rb_base.specs.Names.{name_at}
use Rattle.image_model.specs.ImageNames.{OptionNames}
use Rattle.query_model.specs.Lines.{Text}
use Rattle.class_table.specs.View.{image_of}
use Rattle.command_numbers.specs.CommandNames.{CommandNames, ConditionNames}
use Rattle.command_numbers.specs.MappedCommands.{map_command}
use Rattle.commands.specs.Views.{command_of, condition_of, HasSelf}
use Rattle.commands.specs.declared.command.Command.{Command}
use Rattle.commands.specs.declared.condition.Condition.{Condition}
use Rattle.ruled_model.specs.RuledScripts.{Change, Plainly}
use Rattle.why_model.specs.Refusals.{step_refused}
use Rattle.explained_scripts.specs.Refused.{command_text, IsRefusedStep}
use Rattle.explained_scripts.proofs.RefusedSteps.{refused-step}
use Rattle.explained_scripts.proofs.judging.refused_step.Goals as goal

pub first_false-requires-clause-known : goal.first_false-requires-clause-known
first_false-requires-clause-known g c =
    subst (λ (ns : List Text). CommandNames (λ n. n < length ns) (command_of c.in-Some.command)) (sym c.loop-command.invariant.names)
    (subst (AllByRecursion (λ (x : Command). CommandNames (λ n. n < length c.args.image.now.names) (command_of x))) c.in-Some.ensures.steps.0 c.loop-command.invariant.known).0

pub perform-requires-clause-known : goal.perform-requires-clause-known
perform-requires-clause-known g c =
    subst (λ (ns : List Text). CommandNames (λ n. n < length ns) (command_of c.in-Some.command)) (sym c.loop-command.invariant.names)
    (subst (AllByRecursion (λ (x : Command). CommandNames (λ n. n < length c.args.image.now.names) (command_of x))) c.in-Some.ensures.steps.0 c.loop-command.invariant.known).0

pub returns-in-Some-2-clause-found : goal.returns-in-Some-2-clause-found
returns-in-Some-2-clause-found g c =
    let first = c.args.image.now in
    let here = c.loop-command.image in
    let k = c.loop-command.number in
    let command = c.in-Some.command in
    let same = c.loop-command.invariant.names in
    let rest : List Change = map (λ (x : Command). Plainly (command_text first x)) (into_iter_items c.next.new.self) in
    let all : List Change = map (λ (x : Command). Plainly (command_text first x)) c.args.commands.items in
    let next : suc k ≡ k + 1 = omega arith in
    let known : CommandNames (λ n. n < length here.names) (command_of command) =
    subst (λ (ns : List Text). CommandNames (λ n. n < length ns) (command_of command)) (sym same)
    (subst (AllByRecursion (λ (x : Command). CommandNames (λ n. n < length first.names) (command_of x))) c.in-Some.ensures.steps.0 c.loop-command.invariant.known).0 in
    let left : step_refused (image_of here) (suc k) (Plainly (command_text here command) ∷ rest) ≡ step_refused (image_of first) 1 all =
    ap (λ (ns : List Text). step_refused (image_of here) (suc k) (Plainly (map_command (name_at ns) (command_of command)) ∷ rest)) same
    ∙ ap (λ (cs : List Command). step_refused (image_of here) (suc k) (map (λ (x : Command). Plainly (command_text first x)) cs)) (sym c.in-Some.ensures.steps.0) ∙ c.loop-command.invariant.left in
    subst (λ (n : ℕ). IsRefusedStep (image_of first) 1 all here (record { command = command; condition = c.in-Some-2.condition; step = Some n })) next
    (refused-step c.all_commands_by_numbers.ensures.first_false here c.loop-command.invariant.log.orderly (subst HasSelf (sym same) c.requires.self_known) command known c.in-Some-2.condition
    (sym (ap (λ (o : Option Condition). option_map condition_of o) c.in-Some-2.is) ∙ c.in_ok-condition.ensures.first)
    (subst (λ (o : Option Condition). OptionNames (λ q. ConditionNames (λ n. n < length here.names) (condition_of q)) o) c.in-Some-2.is c.in_ok-condition.ensures.known)
    (image_of first) all (suc k) rest left)
