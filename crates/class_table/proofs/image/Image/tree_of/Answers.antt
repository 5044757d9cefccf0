use Rattle.std.proofs.Common.{ap, ◌∙◌}
use Rattle.class_table.specs.Slots.{Slots}
use Rattle.class_table.proofs.TreeOf.{SuperclassesFirst-moved}
use Rattle.class_table.proofs.image.Image.tree_of.Goals as goal

pub classes_below-requires-clause-first : goal.classes_below-requires-clause-first
classes_below-requires-clause-first c =
    SuperclassesFirst-moved c.args.self.now.classes c.deref.result.now c.args.self.now.class_order c.items-order.result.now
    (c.deref.ensures.value ∙ ap (λ (s : Slots). s.classes) c.self.view_is)
    (c.items-order.ensures.value ∙ ap (λ (s : Slots). s.class_order) c.self.view_is) c.requires
