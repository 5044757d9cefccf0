use Rattle.std.proofs.Common.{◌<◌, sym, subst, length, List, ℕ}
use Rattle.tree_model.specs.AllNames.{MethodNames}
use Rattle.st_tree.specs.View.{method_of}
use Rattle.class_table.specs.declared.record.MethodRec.{MethodRec}
use Rattle.class_table.specs.View.{live_at}
use Rattle.canonical_image.proofs.Slots.{held}
use Rattle.canonical_image.proofs.format.method_text.Goals as goal

pub format_method-requires : goal.format_method-requires
format_method-requires g c =
    let found = held (λ (m : MethodRec). m.tree) (live_at c.args.image.now.methods c.args.image.now.method_order c.args.slot) c.in-Some.method.now c.in-Some.ensures.tree in
    subst (λ (names : List (List ℕ)). MethodNames (λ n. n < length names) (method_of c.in-Some.method.now)) (sym c.names.ensures)
    (subst (λ t. MethodNames (λ n. n < length c.args.image.now.names) (method_of t)) (sym found.2) (c.requires found.0 found.1))
