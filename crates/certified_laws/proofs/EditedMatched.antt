-- Images that a row of edited images leads to are matched.
use Rattle.std.proofs.Common.{◌≡◌, ℕ, ◌*◌, List, [], ◌∷◌, refl, sym, ap, ◌∙◌, subst}
use Rattle.std.specs.Prelude.{Bool, true, false, not, IsTrue}
use Rattle.std.proofs.lemmas.Bool.{false≢true}
use Rattle.image_model.specs.Image.{ImageOf}
use Rattle.run_model.specs.Values.{Name, Value}
use Rattle.run_model.specs.Store.{no_memory}
use Rattle.run_model.specs.Prefixes.{IsPrefixOf}
use Rattle.run_model.specs.Runs.{RunOf, has_ended}
use Rattle.run_model.specs.Renamings.{Renaming, no_renaming}
use Rattle.run_model.specs.Matched.{IsMatchedBy, IsMatchedBefore, AreMatched}
use Rattle.run_model.proofs.RenamingLemmas.{events-same, outcome-same}
use Rattle.trace_model.specs.Traces.{Step, End, gave, returned, failed_by, stopped, Trace}
use Rattle.resolved_model.specs.ResolvedImages.{ResolvedImage, resolved_image}
use Rattle.resolved_model.specs.ResolvedActs.{ResolvedClosure}
use Rattle.resolved_model.specs.ResolvedRuns.{runs_all}
use Rattle.resolved_traces.specs.ResolvedTraces.{resolved_trace, resolved_traces}
use Rattle.resolved_traces.specs.WholeTraces.{outcome_at, whole}
use Rattle.resolved_traces.proofs.Deeper.{prefix-trans}
use Rattle.certified_laws.specs.EditedImages.{EditedImage, image_at, AreEdited}
use Rattle.certified_laws.proofs.WithinTraces.{WithinAt, equal-prefix}
use Rattle.certified_laws.proofs.EditedRuns.{IsEdited}
use Rattle.certified_laws.proofs.LawsWithin.{all-do}

-- The second run has what the first has: all of it, if the first has ended, and else its events first.
record IsWithinRun (x y : RunOf) : Type 0 where
  ended : IsTrue (has_ended x.outcome) → (y.events ≡ x.events) × (y.outcome ≡ x.outcome)
  events : IsPrefixOf x.events y.events

-- each is within itself, and what is within it is
within-refl : (x : RunOf) → IsWithinRun x x
within-refl x = record { ended = λ p. (refl, refl); events = equal-prefix _ _ refl }

within-trans : (x y z : RunOf) → IsWithinRun x y → IsWithinRun y z → IsWithinRun x z
within-trans x y z p q = record {
  ended = λ e.
      let a = p.ended e in
      let c = q.ended (subst (λ o. IsTrue (has_ended o)) (sym a.1) e) in
      (c.0 ∙ a.0, c.1 ∙ a.1);
  events = prefix-trans _ _ _ p.events q.events;
}

-- a trace within another, as wholes
within-at : (b : Bool) (ss : List Step) (e : End Value) (cs : List ResolvedClosure) (y : Trace Value × List ResolvedClosure) → WithinAt (IsEdited b) ss e cs y → IsWithinRun (whole (record { steps = ss; end = e })) (whole y.0)
within-at b ss (gave a m) cs y p = record { ended = λ t. (p.0, ap outcome_at p.1); events = equal-prefix _ _ p.0 }
within-at b ss (returned h v m) cs y p = record { ended = λ t. (p.0, ap outcome_at p.1); events = equal-prefix _ _ p.0 }
within-at b ss (failed_by x m) cs y p = record { ended = λ t. (p.0, ap outcome_at p.1); events = equal-prefix _ _ p.0 }
within-at b ss (stopped m) cs y p = record { ended = λ t. absurd (false≢true t); events = p }

-- all do-its of the two sides
sides-within : (b : Bool) (x : EditedImage) (d : ℕ) → IsWithinRun (whole (resolved_trace (image_at b x) d)) (whole (resolved_trace (image_at (not b) x) (2 * d)))
sides-within b x d =
    within-at b (resolved_trace (image_at b x) d).steps (resolved_trace (image_at b x) d).end (runs_all resolved_traces (image_at b x) d [] no_memory).1 (runs_all resolved_traces (image_at (not b) x) (2 * d) [] no_memory)
    ((all-do b x d).so [] [] no_memory tt)

-- a row of edited images, forwards
along : (i : ResolvedImage) (xs : List EditedImage) (j : ResolvedImage) → AreEdited i xs j → (d : ℕ) → (e : ℕ) × IsWithinRun (whole (resolved_trace i d)) (whole (resolved_trace j e))
along i [] j h d = (d, subst (λ k. IsWithinRun (whole (resolved_trace i d)) (whole (resolved_trace k d))) (sym h) (within-refl _))
along i (x ∷ xs) j h d =
    let rest = along (image_at false x) xs j h.1 (2 * d) in
    (rest.0, within-trans _ _ _ (subst (λ k. IsWithinRun (whole (resolved_trace k d)) (whole (resolved_trace (image_at false x) (2 * d)))) h.0 (sides-within true x d)) rest.1)

-- and backwards
back : (i : ResolvedImage) (xs : List EditedImage) (j : ResolvedImage) → AreEdited i xs j → (d : ℕ) → (e : ℕ) × IsWithinRun (whole (resolved_trace j d)) (whole (resolved_trace i e))
back i [] j h d = (d, subst (λ k. IsWithinRun (whole (resolved_trace k d)) (whole (resolved_trace i d))) (sym h) (within-refl _))
back i (x ∷ xs) j h d =
    let rest = back (image_at false x) xs j h.1 d in
    (2 * rest.0, within-trans _ _ _ rest.1 (subst (λ k. IsWithinRun (whole (resolved_trace (image_at false x) rest.0)) (whole (resolved_trace k (2 * rest.0)))) h.0 (sides-within false x rest.0)))

-- what is within is matched, with nothing renamed
within-by : (x y : RunOf) → IsWithinRun x y → IsMatchedBy no_renaming x y
within-by x y h = record {
  ended = λ e.
      let p = h.ended e in
      (subst (λ o. IsTrue (has_ended o)) (sym p.1) e, p.0 ∙ sym (events-same x.events), p.1 ∙ sym (outcome-same x.outcome));
  spent = λ e. subst (λ es. IsPrefixOf es y.events) (sym (events-same x.events)) h.events;
}

within-before : (x y : RunOf) → IsWithinRun x y → IsMatchedBefore no_renaming x y
within-before x y h = record {
  ended = λ e.
      let p = h.ended e in
      (subst (λ o. IsTrue (has_ended o)) (sym p.1) e, events-same y.events ∙ p.0, outcome-same y.outcome ∙ p.1);
  spent = λ e. subst (λ es. IsPrefixOf x.events es) (sym (events-same y.events)) h.events;
}

-- what makes images matched
abbrev MatchedByTraces : Type 0
MatchedByTraces = (r : Renaming) (i j : ImageOf Name) →
    ((d : ℕ) → (e : ℕ) × IsMatchedBy r (whole (resolved_trace (resolved_image i) d)) (whole (resolved_trace (resolved_image j) e))) →
    ((d : ℕ) → (e : ℕ) × IsMatchedBefore r (whole (resolved_trace (resolved_image j) d)) (whole (resolved_trace (resolved_image i) e))) → AreMatched i j r

pub edited-matched : MatchedByTraces → (i j : ImageOf Name) (xs : List EditedImage) → AreEdited (resolved_image i) xs (resolved_image j) → AreMatched i j no_renaming
edited-matched by_traces i j xs h =
    by_traces no_renaming i j
    (λ d. let p = along (resolved_image i) xs (resolved_image j) h d in (p.0, within-by (whole (resolved_trace (resolved_image i) d)) (whole (resolved_trace (resolved_image j) p.0)) p.1))
    (λ d. let p = back (resolved_image i) xs (resolved_image j) h d in (p.0, within-before (whole (resolved_trace (resolved_image j) d)) (whole (resolved_trace (resolved_image i) p.0)) p.1))
