use Rattle.std.proofs.Common.{◌≡◌, ◌++◌, ℕ, List, OnOk, sym, ap, subst, ◌∙◌}
use Rattle.class_table.specs.View.{number_image}
use Rattle.commands.specs.Views.{asked_by, command_of}
use Rattle.commands.specs.declared.command.Command.{Command}
use Rattle.refusal_witnesses.specs.Witnesses.{WitnessOf}
use Rattle.witness_lists.specs.Views.{shown}
use Rattle.use_witnesses.specs.Brought.{heights_there}
use Rattle.use_witnesses.proofs.Highs.{speaking-told}
use Rattle.use_witnesses.proofs.heights.heights_there.Goals as goal

pub returns-in-AddParameter : goal.returns-in-AddParameter
returns-in-AddParameter g c =
    let s = c.args.image.now in
    subst (λ (ws : List (WitnessOf ℕ)). OnOk c.high_there.result (shown s c.high_there.new.found.items ≡ shown s c.args.found.now.items ++ ws))
    (speaking-told s c.in-AddParameter.new.selector ∙ ap (λ (m : Command). heights_there (asked_by s.names) (number_image s) (command_of m)) (sym c.in-AddParameter.is))
    c.high_there.ensures

pub returns-in-MoveCode : goal.returns-in-MoveCode
returns-in-MoveCode g c =
    let s = c.args.image.now in
    subst (λ (ws : List (WitnessOf ℕ)). OnOk c.heights_moved.result (shown s c.heights_moved.new.found.items ≡ shown s c.args.found.now.items ++ ws))
    (ap (λ (m : Command). heights_there (asked_by s.names) (number_image s) (command_of m)) (sym c.in-MoveCode.is))
    c.heights_moved.ensures
