use Rattle.std.proofs.Common.{◌≡◌, ◌&&◌, ℕ, not, List, ◌++◌, length, ap, ◌∙◌}
use Rattle.std.specs.Prelude.{nat_lt}
use Rattle.std.proofs.lemmas.Result.{on_ok_weaker}
use Rattle.tree_model.specs.Nodes.{Placed}
use Rattle.command_model.specs.Places.{is_return}
use Rattle.st_tree.specs.View.{method_of, statements_of}
use Rattle.st_tree.specs.declared.tree.Statement.{Statement}
use Rattle.image_model.specs.Image.{EntryOf}
use Rattle.inline_questions.specs.Bound.{is_fit}
use Rattle.refusal_witnesses.specs.Witnesses.{OwnerOf, AWhole, a_node, nodes_that, where_true}
use Rattle.witness_lists.specs.declared.witness.Owner.TheVariants as owner
use Rattle.witness_lists.specs.Views.{owner_of, shown}
use Rattle.part_witnesses.specs.Held.{held_as}
use Rattle.part_witnesses.specs.Sending.{supers_elsewhere}
use Rattle.part_witnesses.proofs.Pushed.{fourth}
use Rattle.part_witnesses.proofs.inlinable.not_inlinable.Goals as goal

pub returns : goal.returns
returns c =
    let s = c.args.image.now in
    let it = c.args.sending.now in
    let t : EntryOf ℕ = held_as s.classes it.target.now in
    let old = shown s c.args.found.now.items in
    let path = it.call.sent.path.now in
    let o = owner_of s (owner.Method it.target.now.slot) in
    let p = owner_of s (owner.Method it.method.now.slot) in
    let supers = supers_elsewhere s c.args.class t in
    let returns_of = λ (q : OwnerOf ℕ). nodes_that (λ (x : Placed ℕ). is_return x.1 && nat_lt 1 (length x.0)) q t.tree.body in
    let fits : c.in_ok-fits.fits ≡ is_fit (method_of it.method.now.tree.now) path t.tree.body.statements =
    c.in_ok-fits.ensures ∙ ap (λ (ss : List Statement). is_fit (method_of it.method.now.tree.now) path (statements_of ss)) c.as_slice.ensures in
    on_ok_weaker c.push_node_if.result
    (λ e. e
    ∙ fourth (shown s c.push_if.new.found.items) (shown s c.block_returns.new.found.items) (shown s c.supers_elsewhere.new.found.items) old
    (where_true c.is_kept.result (AWhole o)) (returns_of o) supers (where_true (not c.in_ok-fits.fits) (a_node p path))
    (c.in_ok-push_if.ensures s) c.in_ok-block_returns.ensures c.in_ok-supers_elsewhere.ensures
    ∙ (λ j. old ++ (where_true (c.is_kept.ensures j) (AWhole (c.requires.sending.target.owner j)) ++ (returns_of (c.requires.sending.target.owner j) ++ (supers ++ where_true (not (fits j)) (a_node (c.requires.sending.method.owner j) path))))))
    (c.push_node_if.ensures s)
