use Rattle.std.proofs.Common.{slice_get, sym, ap, ◌∙◌}
use Rattle.std.specs.Option.{option_copied_mut}
use Rattle.class_table.specs.declared.record.DoIt.{DoIt}
use Rattle.change_set.proofs.Swaps.{doit_swapped, nothing_lent}
use Rattle.change_set.proofs.part.swap_in_doit.Goals as goal

pub returns-in-Some-clause-image : goal.returns-in-Some-clause-image
returns-in-Some-clause-image g c =
    let s = c.args.image.now in
    let lent = sym c.open_doit_mut.ensures.body ∙ ap option_copied_mut c.in-Some.is in
    (doit_swapped s c.args.path.now c.args.part.now c.swap_node.new.part c.args.number c.in-Some.body.now c.swap_node.new.body c.requires (sym lent) c.swap_node.ensures.body c.swap_node.ensures.node).image

pub returns-in-Some-clause-node : goal.returns-in-Some-clause-node
returns-in-Some-clause-node g c =
    let s = c.args.image.now in
    let lent = sym c.open_doit_mut.ensures.body ∙ ap option_copied_mut c.in-Some.is in
    (doit_swapped s c.args.path.now c.args.part.now c.swap_node.new.part c.args.number c.in-Some.body.now c.swap_node.new.body c.requires (sym lent) c.swap_node.ensures.body c.swap_node.ensures.node).node

pub returns-in_default-clause-image : goal.returns-in_default-clause-image
returns-in_default-clause-image g c =
    let s = c.args.image.now in
    absurd (nothing_lent (λ (d : DoIt). d.body) (λ (d : DoIt). d.body) c.args.path.now (slice_get s.doits c.args.number) (sym (sym c.open_doit_mut.ensures.body ∙ ap option_copied_mut c.in_default.is)) c.requires)

pub returns-in_default-clause-node : goal.returns-in_default-clause-node
returns-in_default-clause-node g c =
    let s = c.args.image.now in
    absurd (nothing_lent (λ (d : DoIt). d.body) (λ (d : DoIt). d.body) c.args.path.now (slice_get s.doits c.args.number) (sym (sym c.open_doit_mut.ensures.body ∙ ap option_copied_mut c.in_default.is)) c.requires)
