use Rattle.std.proofs.Common.{ℕ, List, sym, ap, ◌∙◌}
use Rattle.command_model.specs.ParameterConditions.{counts_argument}
use Rattle.commands.specs.Views.{asked_by}
use Rattle.parameter_questions.specs.declared.question.Fault.TheVariants as fault
use Rattle.parameter_questions.specs.Questions.{is_found}
use Rattle.parameter_questions.proofs.Answered.{none-passed}
use Rattle.parameter_questions.proofs.answers.are_arguments_plain.Goals as goal

pub returns : goal.returns
returns g c =
    let found = c.in_ok-found.ensures ∙ ap (λ (n : ℕ). is_found c.args.image.now c.args.selector (fault.Passed n)) c.saturating_sub.ensures in
    let counts = ap (λ (names : List (List ℕ)). counts_argument (asked_by names) c.args.selector c.args.argument) (sym c.names.ensures) ∙ sym c.counts_argument.ensures ∙ c.if-not-counts_argument.false in
    none-passed c.args.image.now c.args.selector c.args.argument c.in_ok-found.found found counts
