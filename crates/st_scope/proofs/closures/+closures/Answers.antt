use Rattle.std.proofs.Common.{sym, ap, ◌∙◌}
use Rattle.scope_model.specs.NameTests.{is_pseudo_in, form_in}
use Rattle.st_tree.specs.View.{tree_of}
use Rattle.st_tree.specs.declared.tree.Sequence.{Sequence}
use Rattle.st_scope.proofs.Hits.{block_declares, block_passes}
use Rattle.st_scope.proofs.closures.+closures.Goals as goal

pub assigns-returns-then-declares : goal.assigns-returns-then-declares
assigns-returns-then-declares t c =
    block_declares (is_pseudo_in c.args.names.now) (form_in c.args.names.now) c.args.name c.args.inside c.args.in_place c.args.node.now
    c.in-Block.parameters c.in-Block.body.value.temporaries c.in-Block.body.value.statements c.in-Block.body.value.tail
    (sym c.node.view_is ∙ ap tree_of c.in-Block.is)
    c.as_slice-in-Block.result.now c.as_slice-in-Block-2.result.now c.as_slice-in-Block.ensures
    (c.as_slice-in-Block-2.ensures ∙ ap (λ (b : Sequence). b.temporaries) c.deref-in-Block.ensures)
    c.declares.result c.declares.ensures c.if-declares.true

pub assigns-returns-else-declares : goal.assigns-returns-else-declares
assigns-returns-else-declares t c =
    block_passes (is_pseudo_in c.args.names.now) (form_in c.args.names.now) c.args.name c.args.inside c.args.in_place c.args.node.now
    c.in-Block.parameters c.in-Block.body.value.temporaries c.in-Block.body.value.statements c.in-Block.body.value.tail
    (sym c.node.view_is ∙ ap tree_of c.in-Block.is)
    c.as_slice-in-Block.result.now c.as_slice-in-Block-2.result.now c.as_slice-in-Block.ensures
    (c.as_slice-in-Block-2.ensures ∙ ap (λ (b : Sequence). b.temporaries) c.deref-in-Block.ensures)
    c.declares.result c.declares.ensures
    c.as_slice-in-Block-3.result.now c.is_inside-inside_it.result c.statements_assign.result c.if-declares.false
    (c.as_slice-in-Block-3.ensures ∙ ap (λ (b : Sequence). b.statements) c.deref-in-Block-2.ensures)
    c.is_inside-inside_it.ensures c.statements_assign.ensures
