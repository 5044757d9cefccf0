use Rattle.std.proofs.Common.{◌≡◌, ℕ, List, ◌++◌, Some, Option, OnOk, option_map, sym, ap, subst, ◌∙◌}
use Rattle.image_model.specs.Image.{EntryOf}
use Rattle.command_model.specs.Parts.{Part}
use Rattle.part_questions.specs.Parts.{part_of}
use Rattle.code_conditions.specs.Trees.{users_part}
use Rattle.refusal_witnesses.specs.Witnesses.{WitnessOf}
use Rattle.witness_lists.specs.Views.{shown}
use Rattle.part_witnesses.specs.Held.{held_as}
use Rattle.part_witnesses.specs.Standing.{found_as, part_standing}
use Rattle.part_witnesses.proofs.Pushed.{nothing}
use Rattle.part_witnesses.proofs.Sends.{no-part-found, part-found}
use Rattle.part_witnesses.proofs.parts.part_witnesses.Goals as goal

pub returns-in-None : goal.returns-in-None
returns-in-None g c =
    let s = c.args.image.now in
    nothing (shown s c.args.found.now.items) _
    (no-part-found s c.args.part.now (part_standing s c.args.condition.now) (sym (ap (option_map (found_as s.classes)) c.in-None.is) ∙ c.in_ok-found_part.ensures.part))

pub standing-requires-clause-held : goal.standing-requires-clause-held
standing-requires-clause-held g c = c.in_ok-found_part.ensures.held c.in-Some.part c.in-Some.is

pub returns-in-Some : goal.returns-in-Some
returns-in-Some g c =
    let s = c.args.image.now in
    let f = c.in-Some.part in
    let there : ◌≡◌ {A = Option (EntryOf ℕ × Part)} (Some (found_as s.classes f)) (users_part s c.args.part.now) = sym (ap (option_map (found_as s.classes)) c.in-Some.is) ∙ c.in_ok-found_part.ensures.part in
    subst (λ (ws : List (WitnessOf ℕ)). OnOk c.standing.result (shown s c.standing.new.found.items ≡ shown s c.args.found.now.items ++ ws))
    (part-found s c.args.part.now (part_standing s c.args.condition.now) (held_as s.classes f.method) (part_of f.part) there)
    c.standing.ensures
