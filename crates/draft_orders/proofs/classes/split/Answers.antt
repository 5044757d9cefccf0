use Rattle.std.proofs.Common.{◌≡◌, ℕ, List, ◌∷◌, nat_eq, subst, rules}
use Rattle.std.specs.Vec.Iter.{into_iter_items}
use Rattle.std.specs.HashMap.{get}
use Rattle.image_model.specs.Image.{ClassOf}
use Rattle.draft_orders.proofs.Split.{Splits, split_more}
use Rattle.draft_orders.proofs.classes.split.Goals as goal

pub loop-class-preserved : goal.loop-class-preserved
loop-class-preserved c =
    let left : into_iter_items c.loop-class.class-iterator ≡ c.in-Some.class ∷ into_iter_items c.next.new.self = search rules in
    split_more (λ (x : ClassOf ℕ). x.kernel) (λ (x : ClassOf ℕ). get nat_eq c.args.table.now x.name) c.args.classes.items (into_iter_items c.next.new.self) c.in-Some.class c.loop-class.parts c.add.new.parts
    (subst (λ (xs : List (ClassOf ℕ)). Splits (λ (x : ClassOf ℕ). x.kernel) (λ (x : ClassOf ℕ). get nat_eq c.args.table.now x.name) c.args.classes.items xs c.loop-class.parts) left c.loop-class.invariant)
    c.in_ok-add.ensures
