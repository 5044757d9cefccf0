use Rattle.std.proofs.Common.{◌≤◌, ℕ, ◌++◌, Bool, List, [], cond, length, sym, ap, ◌∙◌, arith}
use Rattle.std.specs.List.{flat_map}
use Rattle.std.proofs.lemmas.List.{append-nil, take_all}
use Rattle.method_questions.proofs.Unchanged.{owners-known}
use Rattle.witness_lists.specs.Views.{shown}
use Rattle.use_witnesses.specs.Reached.{another_at}
use Rattle.use_witnesses.proofs.reached.others_at.Goals as goal

pub another_at-requires-clause-owners : goal.another_at-requires-clause-owners
another_at-requires-clause-owners g c =
    owners-known c.args.image.now c.requires c.args.moved.now c.listed-places.result.now c.as_slice-own.result.now (c.as_slice-own.ensures.value ∙ c.in_ok-list.ensures)

pub returns-then-branch : goal.returns-then-branch
returns-then-branch g c =
    let s = c.args.image.now in
    let old = shown s c.args.found.now.items in
    sym (append-nil old)
    ∙ ap (λ (b : Bool). old ++ cond b [] (flat_map (another_at s c.args.moved.now) s.class_order)) (sym c.if-branch.true ∙ c.in_ok-is_sent_nowhere.ensures)

pub returns : goal.returns
returns g c =
    let s = c.args.image.now in
    let v = c.args.moved.now in
    let old = shown s c.args.found.now.items in
    let over : length c.classes-class-items.result.now ≤ c.loop-class.class-index = omega (arith, c.loop-class-test.false) in
    c.loop-class.invariant
    ∙ ap (λ (ks : List ℕ). old ++ flat_map (another_at s v) ks) (take_all c.loop-class.class-index c.classes-class-items.result.now over ∙ c.classes-class-items.ensures.value)
    ∙ ap (λ (b : Bool). old ++ cond b [] (flat_map (another_at s v) s.class_order)) (sym c.if-branch.false ∙ c.in_ok-is_sent_nowhere.ensures)
