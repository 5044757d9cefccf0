use Rattle.std.proofs.Common.{ℕ, List, ◌++◌, sym, ap, ◌∙◌}
use Rattle.std.proofs.lemmas.List.{drop_all}
use Rattle.std.specs.Borrow.{Bor}
use Rattle.std.specs.List.{flat_map}
use Rattle.tree_model.specs.Tree.{TreeOf}
use Rattle.tree_model.specs.Nodes.{Placed, nodes}
use Rattle.st_tree.specs.View.{sequence_of}
use Rattle.strip_model.specs.Reach.{node_sends}
use Rattle.mentions.specs.Listing.{pointed}
use Rattle.image_strip.proofs.Alls.{no-more, flat-mapped}
use Rattle.image_strip.proofs.code.selectors_sent.Goals as goal

pub returns : goal.returns
returns c =
    let items = c.as_slice-node-items.result.now in
    let sent : List (Bor (TreeOf ℕ)) → List ℕ = λ rs. flat_map node_sends (pointed rs) in
    sym (no-more c.loop-node.selectors)
    ∙ ap (λ (rs : List (Bor (TreeOf ℕ))). c.loop-node.selectors ++ sent rs) (sym (drop_all c.loop-node.node-index items c.loop-node-test.false))
    ∙ c.loop-node.invariant
    ∙ ap sent c.as_slice-node-items.ensures.value
    ∙ ap (flat_map node_sends) c.in_ok-nodes.ensures
    ∙ flat-mapped node_sends (λ (e : Placed ℕ). e.1) (nodes (sequence_of c.args.body.now))
