use Rattle.std.proofs.Common.{◌≡◌, ℕ, List, ◌++◌, OnOk, sym, ap, subst, ◌∙◌}
use Rattle.std.proofs.lemmas.List.{append-nil}
use Rattle.class_table.specs.View.{number_image}
use Rattle.commands.specs.Views.{asked_by, command_of}
use Rattle.commands.specs.declared.command.Command.{Command}
use Rattle.refusal_witnesses.specs.Refused.{of_inlined}
use Rattle.refusal_witnesses.specs.Witnesses.{WitnessOf}
use Rattle.witness_lists.specs.Views.{shown}
use Rattle.explained_scripts.proofs.Unmoved.{none-inlined}
use Rattle.explained_scripts.proofs.found.put_inlined.Goals as goal

pub returns-in-MoveCode : goal.returns-in-MoveCode
returns-in-MoveCode g c =
    let s = c.args.image.now in
    λ method e. subst (λ (x : Command). OnOk c.put_changed.result (shown s c.put_changed.new.found.items ≡ shown s c.args.found.now.items ++ of_inlined (asked_by s.names) (number_image s) (command_of x)))
    (sym c.in-MoveCode.is) (c.put_changed.ensures method e)

pub returns-in_default : goal.returns-in_default
returns-in_default g c =
    let s = c.args.image.now in
    let old = shown s c.args.found.now.items in
    λ method e. sym (append-nil old) ∙ ap (λ (ws : List (WitnessOf ℕ)). old ++ ws) (none-inlined (asked_by s.names) (number_image s) c.args.command.now c.in_default.not-MoveCode)
