-- Where neighbouring statements stand.
use Rattle.std.proofs.Common.{◌≡◌, ℕ, ◌+◌, List, Some, None, sym, ap, ◌∙◌}
use Rattle.std.specs.Prelude.{◌-◌, cond, option_and_then, option_map}
use Rattle.std.proofs.lemmas.Bool.{le-leb}
use Rattle.grammar_model.specs.Spanned.{SpannedSequence}
use Rattle.grammar_model.specs.Spans.{begin_of, end_of, spanned_nth, Span, IsRunAt}
use Rattle.command_model.specs.Parts.{Run}
use Rattle.command_model.specs.PartsOfText.{run_span, span_of_part}

-- they have their span
pub run-spans : (s : SpannedSequence) (path : List ℕ) (first count : ℕ) (span : Span) → IsRunAt s path first count span → span_of_part s (Run path first count) ≡ Some span
run-spans s path first count span r =
    ap (option_and_then (λ ts. run_span ts first count)) r.of_path
    ∙ ap (λ b. cond b (option_and_then (λ head. option_map (λ last. record { from = begin_of head; to = end_of last }) (spanned_nth r.statements (first + count - 1))) (spanned_nth r.statements first)) None) (le-leb 2 count r.many)
    ∙ ap (option_and_then (λ head. option_map (λ last. record { from = begin_of head; to = end_of last }) (spanned_nth r.statements (first + count - 1)))) r.at_first
    ∙ ap (option_map (λ last. record { from = begin_of r.head; to = end_of last })) r.at_last
    ∙ ap Some (sym r.is)
