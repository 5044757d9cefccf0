use Rattle.std.proofs.Common.{ℕ, List, ◌++◌, ap, ◌∙◌}
use Rattle.commands.specs.Views.{command_of, condition_of}
use Rattle.refusal_witnesses.specs.Witnesses.{WitnessOf}
use Rattle.witness_lists.specs.declared.witness.Witness.{Witness}
use Rattle.witness_lists.specs.Views.{shown}
use Rattle.explained_scripts.specs.Families.{of_code, of_methods, of_names, of_parts, of_uses}
use Rattle.explained_scripts.proofs.found.standing.Goals as goal

pub returns : goal.returns
returns g c =
    let s = c.args.image.now in
    let command = command_of c.args.command.now in
    let condition = condition_of c.args.condition.now in
    c.in_ok-put_code.ensures
    ∙ ap (λ (ws : List (WitnessOf ℕ)). ws ++ of_code s command condition)
    (c.in_ok-put_parts.ensures command
    ∙ ap (λ (ws : List (WitnessOf ℕ)). ws ++ of_parts s command condition)
    (c.in_ok-put_uses.ensures
    ∙ ap (λ (ws : List (WitnessOf ℕ)). ws ++ of_uses s command condition)
    (c.in_ok-put_methods.ensures command
    ∙ ap (λ (ws : List (WitnessOf ℕ)). ws ++ of_methods s command condition)
    (c.in_ok-put_names.ensures ∙ ap (λ (xs : List Witness). shown s xs ++ of_names s command condition) c.new-found.ensures.items))))
