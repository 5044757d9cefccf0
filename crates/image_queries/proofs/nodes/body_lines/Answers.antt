use Rattle.std.proofs.Common.{◌+◌, ◌++◌, ◌∙◌}
use Rattle.std.specs.Prelude.{codes}
use Rattle.std.specs.Fmt.{decimal}
use Rattle.st_tree.specs.View.{statements_of, sequence_of}
use Rattle.event_spans.specs.Answers.{sequence_spans}
use Rattle.image_queries.specs.Asked.{query_of, mentions, is_meant, meaning_in_body}
use Rattle.image_queries.specs.Marks.{statements_marks}
use Rattle.image_queries.proofs.Unmarked.{unmarked_text}
use Rattle.image_queries.proofs.nodes.body_lines.Goals as goal

pub returns-then-not-is_any : goal.returns-then-not-is_any
returns-then-not-is_any c = λ spelled spells.
    let q = query_of c.args.query.now in
    unmarked_text c.new.result c.as_slice.result.now (statements_marks (mentions q) (statements_of c.args.body.now.statements)) c.is_any.result
    c.new.ensures c.is_any.ensures c.if-not-is_any.true (c.as_slice.ensures.value ∙ c.in_ok-marks.ensures)
    (λ path. is_meant q (meaning_in_body c.args.image.now (sequence_of c.args.body.now) path)) (codes "doit " ++ decimal (c.args.number + 1)) (sequence_spans spelled)
