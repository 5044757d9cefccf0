use Rattle.std.proofs.Common.{◌≡◌, ◌++◌, ℕ, List, OnOk, subst}
use Rattle.class_table.specs.View.{number_image}
use Rattle.commands.specs.Views.{command_of}
use Rattle.refusal_witnesses.specs.Witnesses.{WitnessOf}
use Rattle.witness_lists.specs.Views.{shown}
use Rattle.use_witnesses.proofs.Told.{looked-told}
use Rattle.use_witnesses.proofs.families.looked_uses.Goals as goal

pub returns : goal.returns
returns g c =
    let s = c.args.image.now in
    subst (λ (ws : List (WitnessOf ℕ)). OnOk c.uses_there.result (shown s c.uses_there.new.found.items ≡ shown s c.args.found.now.items ++ ws))
    (looked-told s (command_of c.args.command.now) c.args.class c.args.variable c.kind_of.result c.looked_in.result c.kind_of.ensures (c.looked_in.ensures.methods (number_image s)) c.looked_in.ensures.doits)
    c.uses_there.ensures
