use Rattle.std.proofs.Common.{ℕ, nat_eq}
use Rattle.std.specs.HashMap.{get}
use Rattle.image_model.specs.Image.{ClassOf}
use Rattle.std.specs.Vec.Iter.{into_iter_items}
use Rattle.draft_orders.proofs.Split.{Splits}
use Rattle.draft_orders.proofs.classes.split.Given as goal

abbrev pub invariant-loop-class : goal.invariant-loop-class
invariant-loop-class l = Splits (λ (c : ClassOf ℕ). c.kernel) (λ c. get nat_eq l.table c.name) l.fn.classes.items (into_iter_items l.class-iterator) l.parts
