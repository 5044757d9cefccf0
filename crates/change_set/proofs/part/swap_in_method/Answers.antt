use Rattle.std.proofs.Common.{sym, ap, ◌∙◌}
use Rattle.std.specs.Option.{option_copied_mut}
use Rattle.class_table.specs.declared.record.MethodRec.{MethodRec}
use Rattle.class_table.specs.View.{live_at}
use Rattle.change_set.proofs.Swaps.{method_swapped, nothing_lent}
use Rattle.change_set.proofs.part.swap_in_method.Goals as goal

pub returns-in-Some-clause-image : goal.returns-in-Some-clause-image
returns-in-Some-clause-image g c =
    let s = c.args.image.now in
    let lent = sym c.open_body_mut.ensures.tree ∙ ap option_copied_mut c.in-Some.is in
    (method_swapped s c.args.path.now c.args.part.now c.swap_node.new.part c.args.slot c.in-Some.method.now c.swap_node.new.body c.requires (sym lent) c.swap_node.ensures.body c.swap_node.ensures.node).image

pub returns-in-Some-clause-node : goal.returns-in-Some-clause-node
returns-in-Some-clause-node g c =
    let s = c.args.image.now in
    let lent = sym c.open_body_mut.ensures.tree ∙ ap option_copied_mut c.in-Some.is in
    (method_swapped s c.args.path.now c.args.part.now c.swap_node.new.part c.args.slot c.in-Some.method.now c.swap_node.new.body c.requires (sym lent) c.swap_node.ensures.body c.swap_node.ensures.node).node

pub returns-in_default-clause-image : goal.returns-in_default-clause-image
returns-in_default-clause-image g c =
    let s = c.args.image.now in
    absurd (nothing_lent (λ (m : MethodRec). m.tree) (λ (m : MethodRec). m.tree.body) c.args.path.now (live_at s.methods s.method_order c.args.slot) (sym (sym c.open_body_mut.ensures.tree ∙ ap option_copied_mut c.in_default.is)) c.requires)

pub returns-in_default-clause-node : goal.returns-in_default-clause-node
returns-in_default-clause-node g c =
    let s = c.args.image.now in
    absurd (nothing_lent (λ (m : MethodRec). m.tree) (λ (m : MethodRec). m.tree.body) c.args.path.now (live_at s.methods s.method_order c.args.slot) (sym (sym c.open_body_mut.ensures.tree ∙ ap option_copied_mut c.in_default.is)) c.requires)
