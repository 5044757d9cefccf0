use Rattle.std.proofs.Common.{◌≡◌, ℕ, ◌++◌, map, sym, ap, ◌∙◌}
use Rattle.std.specs.Prelude.{filter, nat_eq}
use Rattle.std.proofs.lemmas.Result.{on_ok_weaker}
use Rattle.tree_model.specs.Tree.{TreeOf, block}
use Rattle.st_tree.specs.declared.tree.Sequence.{Sequence}
use Rattle.st_tree.specs.View.{statements_of, tree_of}
use Rattle.refusal_witnesses.specs.Witnesses.{a_node}
use Rattle.witness_lists.specs.Views.{owner_of, shown}
use Rattle.part_witnesses.specs.Changed.{declared_at}
use Rattle.part_witnesses.proofs.declarations.declarations_at.Goals as goal

pub returns-in-Block : goal.returns-in-Block
returns-in-Block c s =
    let o = owner_of s c.args.owner.now in
    let x = c.args.name in
    let path = c.args.placed.now.path in
    let old = shown s c.args.found.now.items in
    let ps = c.in-Block.parameters in
    let b : Sequence = c.deref.result.now in
    let node : c.args.placed.now.node.now ≡ block ps b.temporaries (statements_of b.statements) b.tail =
    sym c.node.view_is ∙ ap tree_of c.in-Block.is ∙ ap (λ (d : Sequence). block ps d.temporaries (statements_of d.statements) d.tail) (sym c.deref.ensures) in
    on_ok_weaker c.block_times.result
    (λ e. e
    ∙ (λ j. old ++ map (λ (y : ℕ). a_node o path) (filter (nat_eq x) (c.as_slice.ensures j ++ c.as_slice-temporaries.ensures j)))
    ∙ ap (λ (t : TreeOf ℕ). old ++ declared_at o x (path, t)) (sym node))
    (c.block_times.ensures s)
