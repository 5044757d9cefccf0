-- The part that is found stands there.
use Rattle.std.proofs.Common.{◌≡◌, ap, sym, subst, ◌∙◌}
use Rattle.std.proofs.lemmas.Result.{IfOk-weaker}
use Rattle.grammar_model.specs.Spanned.{SpannedSequence}
use Rattle.event_spans.specs.Preorder.{sequence_places}
use Rattle.event_spans.specs.Answers.{of_span, HasPart, part_found}
use Rattle.event_spans.proofs.PartTold.{part_told}
use Rattle.event_spans.proofs.place.Places.part_at.Goals as goal

pub returns : goal.returns
returns c =
    let places : c.as_slice.result.now ≡ c.args.self.now = cc in
    IfOk-weaker c.part_found.result (λ p. p ≡ part_found c.args.span c.as_slice.result.now) (λ p. (s : SpannedSequence) → c.args.self.now ≡ sequence_places s → HasPart s (of_span c.args.span) p)
    (λ p e s is. subst (HasPart s (of_span c.args.span)) (sym (e ∙ ap (part_found c.args.span) places)) (part_told s c.args.span c.args.self.now is)) c.part_found.ensures
