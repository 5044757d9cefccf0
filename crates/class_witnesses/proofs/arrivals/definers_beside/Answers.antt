use Rattle.std.proofs.Common.{◌≤◌, ℕ, ◌++◌, List, length, map, ap, ◌∙◌, arith}
use Rattle.std.specs.List.{flat_map}
use Rattle.std.proofs.lemmas.List.{take_all}
use Rattle.image_model.specs.Image.{ClassOf}
use Rattle.class_table.specs.View.{class_of, live}
use Rattle.hierarchy_questions.specs.Arrivals.{is_defined_beside}
use Rattle.refusal_witnesses.specs.Witnesses.{WitnessOf, a_class_of, where_true}
use Rattle.witness_lists.specs.Classes.{class_found}
use Rattle.witness_lists.specs.Views.{shown}
use Rattle.witness_lists.proofs.Lists.{gathered_live, where-filter}
use Rattle.class_witnesses.proofs.arrivals.definers_beside.Goals as goal

pub returns : goal.returns
returns c =
    let s = c.args.image.now in
    let p = is_defined_beside s c.args.arrival.now in
    let over : length c.classes-id-items.result.now ≤ c.loop-id.id-index = omega (arith, c.loop-id-test.false) in
    c.loop-id.invariant
    ∙ ap (λ (ks : List ℕ). shown s c.args.found.now.items ++ flat_map (class_found p s) ks) (take_all c.loop-id.id-index c.classes-id-items.result.now over ∙ c.classes-id-items.ensures.value)
    ∙ ap (λ (ws : List (WitnessOf ℕ)). shown s c.args.found.now.items ++ ws)
    (gathered_live (class_of s.classes) (λ (e : ClassOf ℕ). where_true (p e) (a_class_of e)) s.classes s.class_order ∙ where-filter p (a_class_of {N = ℕ}) (map (class_of s.classes) (live s.classes s.class_order)))
