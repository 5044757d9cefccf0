use Rattle.std.proofs.Common.{◌≡◌, ℕ, not, List, ◌++◌, OnOk, sym, ap, subst, ◌∙◌}
use Rattle.st_tree.specs.View.{method_of}
use Rattle.image_model.specs.Image.{EntryOf}
use Rattle.command_model.specs.Asked.{no_parts}
use Rattle.command_model.specs.Numbers.{number_asked}
use Rattle.command_model.specs.PartConditions.{is_part, is_value_unused}
use Rattle.commands.specs.Views.{asked_by}
use Rattle.commands.specs.declared.condition.Condition.{Condition}
use Rattle.part_questions.specs.Parts.{part_of}
use Rattle.refusal_witnesses.specs.Witnesses.{WitnessOf, APart, where_true}
use Rattle.witness_lists.specs.Views.{shown}
use Rattle.part_witnesses.specs.Held.{held_as}
use Rattle.part_witnesses.specs.Standing.{part_standing}
use Rattle.part_witnesses.proofs.parts.standing.Goals as goal

pub returns-in-PartIs : goal.returns-in-PartIs
returns-in-PartIs c =
    let s = c.args.image.now in
    let f = c.args.part.now in
    let m : EntryOf ℕ = held_as s.classes f.method in
    let is : c.is_part-is.result ≡ is_part (asked_by s.names) (method_of f.method.tree.now) (part_of f.part) =
    c.is_part-is.ensures ∙ ap (λ (ns : List (List ℕ)). is_part (number_asked ns 0 no_parts) (method_of f.method.tree.now) (part_of f.part)) c.names.ensures in
    subst (λ (ws : List (WitnessOf ℕ)). OnOk c.push_part_if.result (shown s c.push_part_if.new.found.items ≡ shown s c.args.found.now.items ++ ws))
    ((λ j. where_true (not (is j)) (APart (c.requires.held.owner j) (part_of f.part))) ∙ ap (λ (k : Condition). part_standing s k m (part_of f.part)) (sym c.in-PartIs.is))
    (c.push_part_if.ensures s)

pub returns-in-ValueUnused : goal.returns-in-ValueUnused
returns-in-ValueUnused c =
    let s = c.args.image.now in
    let f = c.args.part.now in
    let m : EntryOf ℕ = held_as s.classes f.method in
    let is : c.is_value_unused-is_unused.result ≡ is_value_unused (method_of f.method.tree.now) (part_of f.part) = c.is_value_unused-is_unused.ensures in
    subst (λ (ws : List (WitnessOf ℕ)). OnOk c.push_part_if-in-ValueUnused.result (shown s c.push_part_if-in-ValueUnused.new.found.items ≡ shown s c.args.found.now.items ++ ws))
    ((λ j. where_true (not (is j)) (APart (c.requires.held.owner j) (part_of f.part))) ∙ ap (λ (k : Condition). part_standing s k m (part_of f.part)) (sym c.in-ValueUnused.is))
    (c.push_part_if-in-ValueUnused.ensures s)
