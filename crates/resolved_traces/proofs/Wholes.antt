-- From traces as wholes to runs with ticks.
use Rattle.std.proofs.Common.{◌≡◌, ℕ, ◌+◌, ◌*◌, ◌-◌, ◌≤◌, List, [], ◌∷◌, ◌++◌, refl, sym, ap, ◌∙◌, subst, arith, append_assoc}
use Rattle.std.specs.Prelude.{Bool, true, false, if◌then◌else◌, nat_le, IsTrue}
use Rattle.std.proofs.lemmas.List.{append-nil, map-append}
use Rattle.std.proofs.lemmas.Bool.{le-leb, false≢true}
use Rattle.image_model.specs.Image.{ImageOf}
use Rattle.run_model.specs.Values.{Name, Value, Event, Outcome, done, failed, spent}
use Rattle.run_model.specs.Store.{out_of_ticks, Result, leaves, no_memory}
use Rattle.run_model.specs.Runs.{RunOf, run_to, run, seen, outcome_of, store_of, has_ended}
use Rattle.run_model.specs.Prefixes.{IsPrefixOf}
use Rattle.run_model.specs.Renamings.{Renaming, renamed_event, renamed_events, renamed_outcome}
use Rattle.run_model.specs.Matched.{IsMatchedBy, IsMatchedBefore, AreMatched}
use Rattle.run_model.proofs.Finite.{by_cases}
use Rattle.trace_model.specs.Traces.{Step, wants, told, End, gave, returned, failed_by, stopped, Trace, cut_at, cut}
use Rattle.resolved_model.specs.ResolvedImages.{resolved_image}
use Rattle.resolved_model.specs.ResolvedRuns.{resolved_run_to}
use Rattle.resolved_traces.specs.ResolvedTraces.{resolved_trace}
use Rattle.resolved_traces.specs.WholeTraces.{told_in, wanted_in, outcome_at, whole}
use Rattle.resolved_traces.proofs.CutResolved.{resolved_run_to-trace}
use Rattle.resolved_traces.proofs.Deeper.{equal-prefix, prefix-trans, run_to-ended, run_to-prefix}

-- The second run has what the first has: all of it, if the first has ended, and else its events first.
record IsWithinRun (x y : RunOf) : Type 0 where
  ended : IsTrue (has_ended x.outcome) → (y.events ≡ x.events) × (y.outcome ≡ x.outcome)
  events : IsPrefixOf x.events y.events

-- renamed events of a prefix
prefix-renamed : (r : Renaming) (xs ys : List Event) → IsPrefixOf xs ys → IsPrefixOf (renamed_events r xs) (renamed_events r ys)
prefix-renamed r xs ys p = (renamed_events r p.0, sym (map-append (renamed_event r) xs p.0) ∙ ap (renamed_events r) p.1)

-- a list with more behind it
more-prefix : (es fs : List Event) → IsPrefixOf es (es ++ fs)
more-prefix es fs = (fs, refl)

-- what is told by a result, or by none
abbrev or_out : Bool → List Event → Result Value → Result Value
or_out b es r = if b then r else leaves out_of_ticks (record { memory = no_memory; events = es; ticks = 0 })

-- by a condition
if-prefix : (b : Bool) (es fs : List Event) (r : Result Value) → IsPrefixOf (store_of r).events (es ++ fs) → IsPrefixOf (store_of (or_out b es r)).events (es ++ fs)
if-prefix true es fs r p = p
if-prefix false es fs r p = more-prefix es fs

-- what is cut tells a part of the events
cut-prefix : (n : ℕ) (es : List Event) (ss : List Step) (e : End Value) → IsPrefixOf (store_of (cut_at n es ss e)).events (es ++ told_in ss)
cut-prefix n es [] (gave a m) = more-prefix es []
cut-prefix n es [] (returned h v m) = more-prefix es []
cut-prefix n es [] (failed_by x m) = more-prefix es []
cut-prefix n es [] (stopped m) = more-prefix es []
cut-prefix n es (told x ∷ ss) e = subst (λ l. IsPrefixOf (store_of (cut_at n (es ++ x ∷ []) ss e)).events l) (append_assoc es (x ∷ []) (told_in ss)) (cut-prefix n (es ++ x ∷ []) ss e)
cut-prefix n es (wants k ∷ ss) e = if-prefix (nat_le k n) es (told_in ss) _ (cut-prefix (n - k) es ss e)

-- by a condition
if-ended : (b : Bool) (es fs : List Event) (o : Outcome) (r : Result Value) → (IsTrue (has_ended (outcome_of r)) → (es ++ fs ≡ (store_of r).events) × (o ≡ outcome_of r)) →
    IsTrue (has_ended (outcome_of (or_out b es r))) → (es ++ fs ≡ (store_of (or_out b es r)).events) × (o ≡ outcome_of (or_out b es r))
if-ended true es fs o r f p = f p
if-ended false es fs o r f p = absurd (false≢true p)

-- where what is cut has ended, it tells all and comes out as the end does
cut-ended : (n : ℕ) (es : List Event) (ss : List Step) (e : End Value) → IsTrue (has_ended (outcome_of (cut_at n es ss e))) →
    (es ++ told_in ss ≡ (store_of (cut_at n es ss e)).events) × (outcome_at e ≡ outcome_of (cut_at n es ss e))
cut-ended n es [] (gave a m) p = (append-nil es, refl)
cut-ended n es [] (returned h v m) p = (append-nil es, refl)
cut-ended n es [] (failed_by x m) p = (append-nil es, refl)
cut-ended n es [] (stopped m) p = (append-nil es, refl)
cut-ended n es (told x ∷ ss) e p = let q = cut-ended n (es ++ x ∷ []) ss e p in (sym (append_assoc es (x ∷ []) (told_in ss)) ∙ q.0, q.1)
cut-ended n es (wants k ∷ ss) e p = if-ended (nat_le k n) es (told_in ss) (outcome_at e) _ (λ q. cut-ended (n - k) es ss e q) p

-- by a condition that holds
if-all : (b : Bool) (es fs : List Event) (o : Outcome) (r : Result Value) → b ≡ true → ((store_of r).events ≡ es ++ fs) × (outcome_of r ≡ o) → ((store_of (or_out b es r)).events ≡ es ++ fs) × (outcome_of (or_out b es r) ≡ o)
if-all true es fs o r q p = p
if-all false es fs o r q p = absurd (false≢true q)

-- with all ticks that are wanted nothing is cut off
cut-all : (n : ℕ) (es : List Event) (ss : List Step) (e : End Value) → wanted_in ss ≤ n →
    ((store_of (cut_at n es ss e)).events ≡ es ++ told_in ss) × (outcome_of (cut_at n es ss e) ≡ outcome_at e)
cut-all n es [] (gave a m) le = (sym (append-nil es), refl)
cut-all n es [] (returned h v m) le = (sym (append-nil es), refl)
cut-all n es [] (failed_by x m) le = (sym (append-nil es), refl)
cut-all n es [] (stopped m) le = (sym (append-nil es), refl)
cut-all n es (told x ∷ ss) e le = let q = cut-all n (es ++ x ∷ []) ss e le in (q.0 ∙ append_assoc es (x ∷ []) (told_in ss), q.1)
cut-all n es (wants k ∷ ss) e le = if-all (nat_le k n) es (told_in ss) (outcome_at e) _ (le-leb k n (omega arith)) (cut-all (n - k) es ss e (omega arith))

-- a trace that was cut is within the whole
cut-within : (n : ℕ) (t : Trace Value) → IsWithinRun (seen n (cut n [] t)) (whole t)
cut-within n t = record { ended = λ p. cut-ended n [] t.steps t.end p; events = cut-prefix n [] t.steps t.end }

module _ (same : (i : ImageOf Name) (d n : ℕ) → resolved_run_to (resolved_image i) d n ≡ run_to i d n) where
  -- the trace with so much depth, cut at the ticks, is the run with this depth
  pub run_to-trace : (i : ImageOf Name) (d n : ℕ) → seen n (cut n [] (resolved_trace (resolved_image i) d)) ≡ run_to i d n
  run_to-trace i d n = resolved_run_to-trace (resolved_image i) d n ∙ same i d n

  -- so each run is a trace that was cut
  pub run-trace : (i : ImageOf Name) (n : ℕ) → seen n (cut n [] (resolved_trace (resolved_image i) (2 * n + 2))) ≡ run i n
  unfolding run
  run-trace i n = run_to-trace i (2 * n + 2) n

  -- a run is within a whole trace
  run-within : (i : ImageOf Name) (n : ℕ) → IsWithinRun (run i n) (whole (resolved_trace (resolved_image i) (2 * n + 2)))
  run-within i n = subst (λ x. IsWithinRun x (whole (resolved_trace (resolved_image i) (2 * n + 2)))) (run-trace i n) (cut-within n (resolved_trace (resolved_image i) (2 * n + 2)))

  -- the ticks that a trace wants, and enough for its depth
  abbrev enough : ImageOf Name → ℕ → ℕ
  enough i d = (whole (resolved_trace (resolved_image i) d)).ticks + d

  -- a whole trace is within a run that has ticks and depth enough
  whole-within : (i : ImageOf Name) (d : ℕ) → IsWithinRun (whole (resolved_trace (resolved_image i) d)) (run i (enough i d))
  unfolding run
  whole-within i d =
      let t = resolved_trace (resolved_image i) d in
      let n = enough i d in
      let all = cut-all n [] t.steps t.end (omega arith) in
      let events-same : (run_to i d n).events ≡ told_in t.steps = ap (λ (x : RunOf). x.events) (sym (run_to-trace i d n)) ∙ all.0 in
      let outcome-same : (run_to i d n).outcome ≡ outcome_at t.end = ap (λ (x : RunOf). x.outcome) (sym (run_to-trace i d n)) ∙ all.1 in
      record {
        ended = λ p. let e = run_to-ended i d (2 * n + 2) n (omega arith) (subst (λ o. IsTrue (has_ended o)) (sym outcome-same) p) in
            (ap (λ (x : RunOf). x.events) e ∙ events-same, ap (λ (x : RunOf). x.outcome) e ∙ outcome-same);
        events = subst (λ l. IsPrefixOf l (run_to i (2 * n + 2) n).events) events-same (run_to-prefix i d (2 * n + 2) n (omega arith));
      }

-- an outcome that is no end is that of a spent run
not-ended : (o : Outcome) → has_ended o ≡ false → o ≡ spent
not-ended (done v) e = absurd (false≢true (sym e))
not-ended (failed x) e = absurd (false≢true (sym e))
not-ended spent e = refl

-- the events of what is matched, spent or not
events-by : (r : Renaming) (x y : RunOf) → IsMatchedBy r x y → IsPrefixOf (renamed_events r x.events) y.events
events-by r x y m = by_cases (has_ended x.outcome) (λ e. equal-prefix _ _ (sym (m.ended e).1)) (λ e. m.spent (not-ended x.outcome e))

-- the same backward
events-before : (r : Renaming) (x y : RunOf) → IsMatchedBefore r x y → IsPrefixOf x.events (renamed_events r y.events)
events-before r x y m = by_cases (has_ended x.outcome) (λ e. equal-prefix _ _ (sym (m.ended e).1)) (λ e. m.spent (not-ended x.outcome e))

-- forward: what is within a whole that is matched by one that is within a run
matched-by : (r : Renaming) (x y z w : RunOf) → IsWithinRun x y → IsMatchedBy r y z → IsWithinRun z w → IsMatchedBy r x w
matched-by r x y z w p m q = record {
  ended = λ e.
      let a = p.ended e in
      let b = m.ended (subst (λ o. IsTrue (has_ended o)) (sym a.1) e) in
      let c = q.ended b.0 in
      (subst (λ o. IsTrue (has_ended o)) (sym c.1) b.0, c.0 ∙ b.1 ∙ ap (renamed_events r) a.0, c.1 ∙ b.2 ∙ ap (renamed_outcome r) a.1);
  spent = λ e. prefix-trans _ _ _ (prefix-renamed r _ _ p.events) (prefix-trans _ _ _ (events-by r y z m) q.events);
}

-- backward
matched-before : (r : Renaming) (x y z w : RunOf) → IsWithinRun x y → IsMatchedBefore r y z → IsWithinRun z w → IsMatchedBefore r x w
matched-before r x y z w p m q = record {
  ended = λ e.
      let a = p.ended e in
      let b = m.ended (subst (λ o. IsTrue (has_ended o)) (sym a.1) e) in
      let c = q.ended b.0 in
      (subst (λ o. IsTrue (has_ended o)) (sym c.1) b.0, ap (renamed_events r) c.0 ∙ b.1 ∙ a.0, ap (renamed_outcome r) c.1 ∙ b.2 ∙ a.1);
  spent = λ e. prefix-trans _ _ _ p.events (prefix-trans _ _ _ (events-before r y z m) (prefix-renamed r _ _ q.events));
}

-- images whose whole traces match each other
pub matched-wholes : ((i : ImageOf Name) (d n : ℕ) → resolved_run_to (resolved_image i) d n ≡ run_to i d n) → (r : Renaming) (i j : ImageOf Name) →
    ((d : ℕ) → (e : ℕ) × IsMatchedBy r (whole (resolved_trace (resolved_image i) d)) (whole (resolved_trace (resolved_image j) e))) →
    ((d : ℕ) → (e : ℕ) × IsMatchedBefore r (whole (resolved_trace (resolved_image j) d)) (whole (resolved_trace (resolved_image i) e))) → AreMatched i j r
matched-wholes same r i j to from = record {
  forward = λ n. let m = to (2 * n + 2) in (enough same j m.0, matched-by r _ _ _ _ (run-within same i n) m.1 (whole-within same j m.0));
  backward = λ n. let m = from (2 * n + 2) in (enough same i m.0, matched-before r _ _ _ _ (run-within same j n) m.1 (whole-within same i m.0));
}
