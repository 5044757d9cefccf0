-- An image and the one without the argument match each other.
use Rattle.std.proofs.Common.{◌≡◌, ℕ, [], sym, ap, ◌∙◌, subst}
use Rattle.std.specs.Prelude.{false, IsTrue}
use Rattle.image_model.specs.Image.{ImageOf}
use Rattle.st_kernel.specs.Selectors.{is_control}
use Rattle.run_model.specs.Values.{Name}
use Rattle.run_model.specs.Store.{no_memory}
use Rattle.run_model.specs.Runs.{RunOf, has_ended}
use Rattle.run_model.specs.Renamings.{Renaming, no_renaming}
use Rattle.run_model.specs.Matched.{IsMatchedBy, IsMatchedBefore, AreMatched}
use Rattle.run_model.proofs.RenamingLemmas.{events-same, outcome-same}
use Rattle.resolved_model.specs.ResolvedImages.{ResolvedImage, resolved_image}
use Rattle.resolved_traces.specs.ResolvedTraces.{resolved_trace}
use Rattle.resolved_traces.specs.WholeTraces.{outcome_at, whole}
use Rattle.resolved_traces.proofs.Deeper.{equal-prefix}
use Rattle.argument_laws.specs.ArgumentGone.{image_without}
use Rattle.argument_laws.specs.PlainArguments.{ImageMayLose}
use Rattle.argument_laws.proofs.AlikeTraces.{one-end}
use Rattle.argument_laws.proofs.RunsWithout.{all-do}

-- the same events and the same outcome
abbrev AreOne : RunOf → RunOf → Type 0
AreOne x y = (y.events ≡ x.events) × (y.outcome ≡ x.outcome)

-- so each is matched by the other
one-by : (x y : RunOf) → AreOne x y → IsMatchedBy no_renaming x y
one-by x y h = record {
  ended = λ e. (subst (λ o. IsTrue (has_ended o)) (sym h.1) e, h.0 ∙ sym (events-same x.events), h.1 ∙ sym (outcome-same x.outcome));
  spent = λ e. equal-prefix _ _ (events-same x.events ∙ sym h.0);
}

one-before : (x y : RunOf) → AreOne x y → IsMatchedBefore no_renaming x y
one-before x y h = record {
  ended = λ e. (subst (λ o. IsTrue (has_ended o)) (sym h.1) e, events-same y.events ∙ h.0, outcome-same y.outcome ∙ h.1);
  spent = λ e. equal-prefix _ _ (sym h.0 ∙ sym (events-same y.events));
}

one-turned : (x y : RunOf) → AreOne x y → AreOne y x
one-turned x y h = (sym h.0, sym h.1)

-- whole traces of the two images with the same depth
wholes-one : (s : Name) (k : ℕ) (i : ResolvedImage) → ImageMayLose s k i → is_control s ≡ false → (d : ℕ) → AreOne (whole (resolved_trace (image_without s k i) d)) (whole (resolved_trace i d))
wholes-one s k i may apart d =
    let both = all-do s k i may apart d [] [] no_memory tt in
    (both.events, ap outcome_at (one-end (resolved_trace (image_without s k i) d).end (resolved_trace i d).end both.end))

-- what makes images matched
abbrev MatchedByTraces : Type 0
MatchedByTraces = (r : Renaming) (i j : ImageOf Name) →
    ((d : ℕ) → (e : ℕ) × IsMatchedBy r (whole (resolved_trace (resolved_image i) d)) (whole (resolved_trace (resolved_image j) e))) →
    ((d : ℕ) → (e : ℕ) × IsMatchedBefore r (whole (resolved_trace (resolved_image j) d)) (whole (resolved_trace (resolved_image i) e))) → AreMatched i j r

module _ (by_traces : MatchedByTraces) (i j : ImageOf Name) (s : Name) (k : ℕ) (apart : is_control s ≡ false) where
  -- images of which one is the other without the argument
  both-ways : ImageMayLose s k (resolved_image j) → resolved_image i ≡ image_without s k (resolved_image j) → (d : ℕ) → AreOne (whole (resolved_trace (resolved_image i) d)) (whole (resolved_trace (resolved_image j) d))
  both-ways may e d = subst (λ x. AreOne (whole (resolved_trace x d)) (whole (resolved_trace (resolved_image j) d))) (sym e) (wholes-one s k (resolved_image j) may apart d)

  -- what is seen of their traces
  abbrev seen_i : ℕ → RunOf
  seen_i d = whole (resolved_trace (resolved_image i) d)

  abbrev seen_j : ℕ → RunOf
  seen_j d = whole (resolved_trace (resolved_image j) d)

  pub added-matched : ImageMayLose s k (resolved_image j) → resolved_image i ≡ image_without s k (resolved_image j) → AreMatched i j no_renaming
  added-matched may e = by_traces no_renaming i j (λ d. (d, one-by (seen_i d) (seen_j d) (both-ways may e d))) (λ d. (d, one-before (seen_j d) (seen_i d) (one-turned (seen_i d) (seen_j d) (both-ways may e d))))

  pub removed-matched : ImageMayLose s k (resolved_image j) → resolved_image i ≡ image_without s k (resolved_image j) → AreMatched j i no_renaming
  removed-matched may e = by_traces no_renaming j i (λ d. (d, one-by (seen_j d) (seen_i d) (one-turned (seen_i d) (seen_j d) (both-ways may e d)))) (λ d. (d, one-before (seen_i d) (seen_j d) (both-ways may e d)))
