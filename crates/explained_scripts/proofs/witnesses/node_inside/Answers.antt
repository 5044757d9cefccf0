use Rattle.std.proofs.Common.{Option, ◌≡◌, option_map, ◌++◌, sym, ap, subst, ◌∙◌}
use Rattle.grammar_model.specs.Spans.{span_at}
use Rattle.query_model.specs.Lines.{Text, node_line}
use Rattle.event_spans.specs.Answers.{of_span, to_span}
use Rattle.rb_base.specs.declared.text.Span.{Span}
use Rattle.st_spans.specs.Trees.{OfMethod}
use Rattle.refusal_witnesses.specs.Lines.{IsLine}
use Rattle.refusal_witnesses.specs.Witnesses.{InMethod, a_node}
use Rattle.explained_scripts.proofs.BroughtLines.{node-inside, found-there}
use Rattle.explained_scripts.proofs.witnesses.node_inside.Goals as goal

pub returns : goal.returns
returns c =
    let title = c.args.title.now in
    let source = c.args.source.now in
    let path = c.args.path.now in
    let span = c.in-Ok-Some.span in
    let of = subst (λ (o : Option Span). OfMethod source (λ b. o ≡ option_map to_span (span_at b path))) c.in-Ok-Some.field-0-is c.in-Ok-Some.ensures.span in
    λ i m titled. subst (IsLine i (a_node (InMethod m) path))
    (sym (c.in_ok-write_line.ensures ∙ ap (λ (t : Text). t ++ node_line title (of_span span)) c.new-line.ensures))
    (node-inside i m title source titled path (of_span span) (found-there source path span of))
