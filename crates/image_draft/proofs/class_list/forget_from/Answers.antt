use Rattle.std.proofs.Common.{◌≡◌, ◌≤◌, ℕ, cond, length, take_all, nat_eq, subst, arith}
use Rattle.image_draft.specs.Table.{place_at, place_before}
use Rattle.image_draft.proofs.Passed.{AreForgotten, forgotten_more, table_front}
use Rattle.image_draft.proofs.class_list.forget_from.Goals as goal

pub loop-class-preserved : goal.loop-class-preserved
loop-class-preserved c =
    forgotten_more c.args.place c.args.table.now c.loop-class.table c.forget_from.new.self c.args.classes.now c.loop-class.class-index c.class-item.result c.loop-class.invariant
    (subst (λ (name : ℕ). (q : ℕ) → place_at c.forget_from.new.self q ≡ cond (nat_eq name q) (place_before c.args.place (place_at c.loop-class.table q)) (place_at c.loop-class.table q)) c.name.ensures c.forget_from.ensures)
    c.loop-class-test.true c.class-item.is

pub returns : goal.returns
returns c = λ front long known.
    let past : length c.args.classes.now ≤ c.loop-class.class-index = omega (arith, c.loop-class-test.false) in
    table_front c.args.place c.args.table.now c.loop-class.table front c.args.classes.now long known
    (subst (AreForgotten c.args.place c.args.table.now c.loop-class.table) (take_all c.loop-class.class-index c.args.classes.now past) c.loop-class.invariant)
