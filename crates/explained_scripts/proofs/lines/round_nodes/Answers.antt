use Rattle.std.proofs.Common.{List, ap, ◌∙◌}
use Rattle.std.proofs.lemmas.Result.{IfOk-weaker}
use Rattle.event_spans.specs.declared.search.NodeSpan.{NodeSpan}
use Rattle.explained_scripts.specs.Lines.{round_texts}
use Rattle.explained_scripts.proofs.RoundLines.{round-there}
use Rattle.explained_scripts.proofs.lines.round_nodes.Goals as goal

pub returns-in-Ok : goal.returns-in-Ok
returns-in-Ok c =
    let title = c.args.title.now in
    let of = c.in-Ok.ensures.spans in
    IfOk-weaker c.told_round.result _ _
    (λ lines e i m titled. round-there i m title c.args.source.now titled of.tree of.spells c.args.from c.args.to lines.items
    (e ∙ ap (λ (es : List NodeSpan). round_texts title c.args.from c.args.to es) (c.as_slice.ensures ∙ of.holds)))
    c.told_round.ensures
