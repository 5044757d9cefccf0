use Rattle.std.proofs.Common.{ℕ, List, ◌++◌, sym, ap, ◌∙◌}
use Rattle.std.specs.Prelude.{codes}
use Rattle.std.specs.Fmt.{decimal}
use Rattle.event_spans.specs.Answers.{of_span}
use Rattle.witness_texts.specs.Code.{users_start}
use Rattle.witness_texts.proofs.lines.line_start.Goals as goal

pub returns : goal.returns
returns c =
    let span = of_span c.in_ok-span.span in
    users_start span (sym c.is_users.ensures ∙ c.if-not-is_users.false) c.in_ok-span.ensures
    (c.in_ok-push_span.ensures ∙ ap (λ (t : List ℕ). t ++ codes " " ++ decimal span.from ++ codes " " ++ decimal span.to) c.in_ok-start.ensures)
