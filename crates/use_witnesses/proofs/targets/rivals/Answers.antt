use Rattle.std.proofs.Common.{◌≤◌, ℕ, ◌++◌, List, length, ap, ◌∙◌, arith}
use Rattle.std.specs.List.{flat_map}
use Rattle.std.proofs.lemmas.List.{take_all}
use Rattle.class_table.specs.View.{class_of}
use Rattle.refusal_witnesses.specs.Witnesses.{WitnessOf}
use Rattle.witness_lists.specs.Views.{shown}
use Rattle.witness_lists.proofs.Lists.{gathered_live}
use Rattle.use_witnesses.specs.Targets.{rival, rival_at}
use Rattle.use_witnesses.proofs.targets.rivals.Goals as goal

pub returns : goal.returns
returns c =
    let s = c.args.image.now in
    let n = c.args.method.now in
    let over : length c.classes-class-items.result.now ≤ c.loop-class.class-index = omega (arith, c.loop-class-test.false) in
    c.loop-class.invariant
    ∙ ap (λ (ks : List ℕ). shown s c.args.found.now.items ++ flat_map (rival_at s n) ks) (take_all c.loop-class.class-index c.classes-class-items.result.now over ∙ c.classes-class-items.ensures.value)
    ∙ ap (λ (ws : List (WitnessOf ℕ)). shown s c.args.found.now.items ++ ws) (gathered_live (class_of s.classes) (rival s n) s.classes s.class_order)
