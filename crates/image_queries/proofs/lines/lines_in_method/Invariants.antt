use Rattle.std.proofs.Common.{◌≡◌, ◌++◌, drop}
use Rattle.st_tree.specs.View.{method_of}
use Rattle.image_queries.specs.Asked.{query_of, is_meant, meaning_in_tree}
use Rattle.image_queries.specs.Marks.{marked_lines}
use Rattle.image_queries.proofs.lines.lines_in_method.Given as goal

abbrev pub invariant-loop-node : goal.invariant-loop-node
invariant-loop-node l =
    l.text ++ marked_lines (λ path. is_meant (query_of l.query) (meaning_in_tree l.image l.info.class l.info.meta (method_of l.tree) path)) l.owner (drop l.node-index l.nodes) l.rest
    ≡ marked_lines (λ path. is_meant (query_of l.query) (meaning_in_tree l.image l.info.class l.info.meta (method_of l.tree) path)) l.owner l.nodes l.marks
