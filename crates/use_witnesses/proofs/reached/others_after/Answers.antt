use Rattle.std.proofs.Common.{◌≡◌, ◌++◌, ℕ, List, OnOk, is_some, true≢false, ap, sym, subst, ◌∙◌}
use Rattle.commands.specs.Views.{command_of}
use Rattle.refusal_witnesses.specs.Witnesses.{WitnessOf}
use Rattle.witness_lists.specs.Views.{shown}
use Rattle.use_witnesses.proofs.Reaches.{told-after}
use Rattle.use_witnesses.proofs.reached.others_after.Goals as goal

pub returns-in-None : goal.returns-in-None
returns-in-None g c = λ moves are. absurd (true≢false (sym are ∙ sym c.moved_by.ensures.there ∙ ap is_some c.in-None.is))

pub returns-in-Some : goal.returns-in-Some
returns-in-Some g c =
    let s = c.args.image.now in
    λ moves are. subst (λ (ws : List (WitnessOf ℕ)). OnOk c.others_at.result (shown s c.others_at.new.found.items ≡ shown s c.args.found.now.items ++ ws))
    (told-after s c.in-Some.moved (command_of c.args.command.now) c.args.selector moves (c.moved_by.ensures.moved c.in-Some.moved c.in-Some.is) are)
    c.others_at.ensures
