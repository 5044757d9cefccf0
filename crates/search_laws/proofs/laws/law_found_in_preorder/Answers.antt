use Rattle.tree_model.specs.Nodes.{tree_nodes, nodes}
use Rattle.pattern_model.specs.Search.{all_matches}
use Rattle.search_laws.specs.Preorder.{paths_of}
use Rattle.search_laws.proofs.Sorted.{all-turned}
use Rattle.search_laws.proofs.Preorder.{tree-sorted, statements-from, ascending, contained, IsOneOf, part-in-order, each-once}
use Rattle.search_laws.proofs.Finding.{found-ascending, matches-ascending}
use Rattle.search_laws.proofs.laws.law_found_in_preorder.Goals as goal

pub returns : goal.returns
returns g k = record {
  tree_order = λ t. ascending (tree_nodes t) (tree-sorted t);
  order = λ b. ascending (nodes b) (statements-from 0 b.statements).order;
  found_order = found-ascending;
  matches_order = matches-ascending;
  part = λ w p b.
      part-in-order (all_matches w p b) (paths_of (nodes b)) (matches-ascending w p b) (ascending (nodes b) (statements-from 0 b.statements).order)
      (all-turned _ (IsOneOf (paths_of (nodes b))) (λ path h. contained (nodes b) (path, h.0) ((k.law_nodes.ensures.members b path h.0).1 h.2)) (all_matches w p b) (k.law_rewritten.ensures.matches w p b));
  once = λ w p b. each-once (all_matches w p b) (matches-ascending w p b);
}
