use Rattle.std.proofs.Common.{ℕ, List, ◌++◌, sym, ap, ◌∙◌}
use Rattle.std.proofs.lemmas.List.{append-nil}
use Rattle.class_table.specs.View.{number_image}
use Rattle.commands.specs.Views.{asked_by}
use Rattle.refusal_witnesses.specs.Witnesses.{WitnessOf}
use Rattle.witness_lists.specs.Views.{shown}
use Rattle.explained_scripts.proofs.Unmoved.{none-changed}
use Rattle.explained_scripts.proofs.found.put_changed.Goals as goal

pub returns-in_default : goal.returns-in_default
returns-in_default g c =
    let s = c.args.image.now in
    let old = shown s c.args.found.now.items in
    λ method e. sym (append-nil old) ∙ ap (λ (ws : List (WitnessOf ℕ)). old ++ ws) (none-changed (asked_by s.names) (number_image s) c.args.change.now c.in_default.not-InlineMethod)
