use Rattle.std.proofs.Common.{◌≡◌, ℕ, List, [], ◌∷◌, ◌++◌, map, OnOk, sym, ap, subst, ◌∙◌}
use Rattle.st_tree.specs.declared.path.Part as declared
use Rattle.image_model.specs.Image.{EntryOf}
use Rattle.class_table.specs.View.{number_image}
use Rattle.commands.specs.Views.{asked_by}
use Rattle.part_questions.specs.Parts.{part_of}
use Rattle.refusal_witnesses.specs.PartWitnesses.{before_expression, evaluated_before}
use Rattle.refusal_witnesses.specs.Witnesses.{WitnessOf, APart, a_node}
use Rattle.witness_lists.specs.Views.{shown}
use Rattle.part_witnesses.specs.Held.{held_as}
use Rattle.part_witnesses.proofs.first.evaluated_before.Goals as goal

pub returns-in-Expression : goal.returns-in-Expression
returns-in-Expression c =
    let s = c.args.image.now in
    let m : EntryOf ℕ = held_as s.classes c.args.part.now.method in
    subst (λ (ws : List (WitnessOf ℕ)). OnOk c.push_before_expression.result (shown s c.push_before_expression.new.found.items ≡ shown s c.args.found.now.items ++ ws))
    ((λ j. map (a_node (c.requires.held.owner j)) (before_expression (asked_by s.names) (number_image s) m c.in-Expression.path))
    ∙ ap (λ (p : declared.Part). evaluated_before (asked_by s.names) (number_image s) m (part_of p)) (sym c.in-Expression.is))
    c.push_before_expression.ensures

pub returns-in-Run : goal.returns-in-Run
returns-in-Run c =
    let s = c.args.image.now in
    let m : EntryOf ℕ = held_as s.classes c.args.part.now.method in
    subst (λ (ws : List (WitnessOf ℕ)). OnOk c.push_part_if.result (shown s c.push_part_if.new.found.items ≡ shown s c.args.found.now.items ++ ws))
    ((λ j. APart (c.requires.held.owner j) (part_of (c.in-Run.is j)) ∷ [])
    ∙ ap (λ (p : declared.Part). evaluated_before (asked_by s.names) (number_image s) m (part_of p)) (sym c.in-Run.is))
    (c.push_part_if.ensures s)
