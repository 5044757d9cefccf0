use Rattle.std.proofs.Common.{ℕ, List, ◌++◌, refl, ap, ◌∙◌}
use Rattle.std.specs.Prelude.{codes}
use Rattle.std.specs.Fmt.{decimal}
use Rattle.command_model.specs.Parts.{Run}
use Rattle.event_spans.specs.Answers.{of_span}
use Rattle.witness_texts.specs.Code.{users_start, code_title}
use Rattle.witness_texts.proofs.StartLines.{part-line}
use Rattle.witness_texts.proofs.lines.statements_line.Goals as goal

pub returns : goal.returns
returns c =
    let s = c.args.image.now in
    let code = c.in-Some.code in
    let there = c.in_ok-check_statements.ensures in
    part-line s c.requires c.args.owner.now code c.in-Some.ensures (Run c.args.path.now c.args.first c.args.count) (code_title s.names s.classes code ++ codes " " ++ decimal c.args.span.from ++ codes " " ++ decimal c.args.span.to) c.push_slice.new.self
    (users_start (of_span c.args.span) there.0 there.1 refl)
    (c.in_ok-push_slice.ensures.ok ∙ ap (λ (t : List ℕ). t ++ codes "\n") (c.in_ok-push_span.ensures ∙ ap (λ (t : List ℕ). t ++ codes " " ++ decimal c.args.span.from ++ codes " " ++ decimal c.args.span.to) c.in_ok-line.ensures))
