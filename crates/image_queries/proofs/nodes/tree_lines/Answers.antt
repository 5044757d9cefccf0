use Rattle.std.proofs.Common.{◌∙◌}
use Rattle.st_tree.specs.View.{statements_of, method_of}
use Rattle.event_spans.specs.Answers.{sequence_spans}
use Rattle.image_queries.specs.Asked.{query_of, mentions, is_meant, meaning_in_tree}
use Rattle.image_queries.specs.Marks.{statements_marks}
use Rattle.image_queries.specs.Parts.{title_of}
use Rattle.image_queries.proofs.Unmarked.{unmarked_text}
use Rattle.image_queries.proofs.nodes.tree_lines.Goals as goal

pub returns-then-not-is_any : goal.returns-then-not-is_any
returns-then-not-is_any c = λ spelled spells.
    let s = c.args.image.now in
    let info = c.args.info.now in
    let q = query_of c.args.query.now in
    unmarked_text c.new.result c.as_slice.result.now (statements_marks (mentions q) (statements_of c.args.tree.now.body.statements)) c.is_any.result
    c.new.ensures c.is_any.ensures c.if-not-is_any.true (c.as_slice.ensures.value ∙ c.in_ok-marks.ensures)
    (λ path. is_meant q (meaning_in_tree s info.class info.meta (method_of c.args.tree.now) path)) (title_of s.names s.classes info.class info.meta info.selector) (sequence_spans spelled.body)
