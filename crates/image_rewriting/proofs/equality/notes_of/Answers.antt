use Rattle.std.proofs.Common.{◌≡◌, List, ◌++◌, ap, ◌∙◌}
use Rattle.std.specs.List.{flat_map}
use Rattle.tree_model.specs.Tree.{Notes}
use Rattle.tree_model.specs.Nodes.{nodes}
use Rattle.st_tree.specs.View.{sequence_of, statements_of}
use Rattle.mentions.specs.Listing.{pointed}
use Rattle.rewrite_model.specs.Notes.{statement_notes, block_notes}
use Rattle.image_rewriting.specs.Equal.{noted}
use Rattle.image_rewriting.proofs.Equal.{placed-notes}
use Rattle.image_rewriting.proofs.equality.notes_of.Goals as goal

pub returns : goal.returns
returns c =
    let body = c.args.body.now in
    let own : noted c.put_notes.new.found.items ≡ statement_notes (statements_of body.statements) body.tail =
    c.in_ok-put_notes.ensures ∙ (λ i. noted (c.new-found.ensures.items i) ++ statement_notes (statements_of (c.as_slice.ensures i)) body.tail) in
    c.in_ok-put_blocks.ensures
    ∙ (λ i. own i ++ flat_map block_notes (pointed (c.as_slice-2.ensures.value i)))
    ∙ (λ i. statement_notes (statements_of body.statements) body.tail ++ flat_map block_notes (c.in_ok-nodes.ensures i))
    ∙ ap (λ (ns : List Notes). statement_notes (statements_of body.statements) body.tail ++ ns) (placed-notes (nodes (sequence_of body)))
