use Rattle.std.proofs.Common.{◌≡◌, ℕ, None, cond, nat_eq, subst}
use Rattle.image_draft.specs.Table.{place_at}
use Rattle.image_draft.proofs.ClassPlaces.{table_left}
use Rattle.image_draft.proofs.class_list.forget_all.Goals as goal

pub loop-class-preserved : goal.loop-class-preserved
loop-class-preserved c =
    table_left c.loop-class.table c.forget.new.self c.args.classes.now c.loop-class.class-index c.class-item.result c.loop-class.invariant
    (subst (λ (name : ℕ). (q : ℕ) → place_at c.forget.new.self q ≡ cond (nat_eq name q) None (place_at c.loop-class.table q)) c.name.ensures c.forget.ensures)
    c.loop-class-test.true c.class-item.is
