use Rattle.std.proofs.Common.{◌≡◌, ℕ, List, [], ◌++◌, Option, OnOk, option_map, sym, ap, subst, ◌∙◌}
use Rattle.std.specs.Option.{option_map_or}
use Rattle.image_model.specs.Image.{EntryOf}
use Rattle.refusal_witnesses.specs.Witnesses.{WitnessOf}
use Rattle.witness_lists.specs.Views.{shown}
use Rattle.part_witnesses.specs.Held.{held_as}
use Rattle.part_witnesses.specs.Standing.{temporary_standing}
use Rattle.part_witnesses.proofs.Pushed.{nothing}
use Rattle.part_witnesses.proofs.temporaries.temporary_witnesses.Goals as goal

pub returns-in-None : goal.returns-in-None
returns-in-None g c =
    let s = c.args.image.now in
    nothing (shown s c.args.found.now.items) _
    (ap (λ (o : Option (EntryOf ℕ)). option_map_or (temporary_standing s c.args.condition.now c.args.variable) o []) (sym (ap (option_map (held_as s.classes)) c.in-None.is) ∙ c.users_held.ensures.method))

pub returns-in-Some : goal.returns-in-Some
returns-in-Some g c =
    let s = c.args.image.now in
    subst (λ (ws : List (WitnessOf ℕ)). OnOk c.standing.result (shown s c.standing.new.found.items ≡ shown s c.args.found.now.items ++ ws))
    (ap (λ (o : Option (EntryOf ℕ)). option_map_or (temporary_standing s c.args.condition.now c.args.variable) o []) (sym (ap (option_map (held_as s.classes)) c.in-Some.is) ∙ c.users_held.ensures.method))
    c.standing.ensures
