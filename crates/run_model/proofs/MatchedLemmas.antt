-- Matched runs one after the other.
use Rattle.std.proofs.Common.{◌≡◌, List, [], ◌++◌, refl, sym, ap, ◌∙◌, subst, append_assoc}
use Rattle.std.specs.Prelude.{ℕ, false, IsTrue}
use Rattle.std.proofs.lemmas.Bool.{false≢true}
use Rattle.std.proofs.lemmas.List.{append-nil, map-append}
use Rattle.image_model.specs.Image.{ImageOf}
use Rattle.run_model.specs.Values.{Name, Event, Outcome, done, failed, spent}
use Rattle.run_model.specs.Prefixes.{IsPrefixOf}
use Rattle.run_model.specs.Runs.{RunOf, run, has_ended}
use Rattle.run_model.specs.Renamings.{Renaming, no_renaming, IsComposite, renamed_event, renamed_events, renamed_outcome}
use Rattle.run_model.specs.Matched.{IsMatchedBy, IsMatchedBefore, AreMatched}
use Rattle.run_model.proofs.Finite.{by_cases}
use Rattle.run_model.proofs.RenamingLemmas.{events-same, outcome-same, events-twice, outcome-twice}

-- a list begins with what is equal to it
equal-prefix : (es fs : List Event) → es ≡ fs → IsPrefixOf es fs
equal-prefix es fs e = ([], append-nil es ∙ e)

-- a prefix of a prefix
prefix-trans : (xs ys zs : List Event) → IsPrefixOf xs ys → IsPrefixOf ys zs → IsPrefixOf xs zs
prefix-trans xs ys zs p q = (p.0 ++ q.0, sym (append_assoc xs p.0 q.0) ∙ ap (λ l. l ++ q.0) p.1 ∙ q.1)

-- renamed events of a prefix
pub prefix-renamed : (r : Renaming) (xs ys : List Event) → IsPrefixOf xs ys → IsPrefixOf (renamed_events r xs) (renamed_events r ys)
prefix-renamed r xs ys p = (renamed_events r p.0, sym (map-append (renamed_event r) xs p.0) ∙ ap (renamed_events r) p.1)

-- an outcome that is no end is that of a spent run
not-ended : (o : Outcome) → has_ended o ≡ false → o ≡ spent
not-ended (done v) e = absurd (false≢true (sym e))
not-ended (failed x) e = absurd (false≢true (sym e))
not-ended spent e = refl

-- the events of a run that is matched, spent or not
events-by : (r : Renaming) (x y : RunOf) → IsMatchedBy r x y → IsPrefixOf (renamed_events r x.events) y.events
events-by r x y m = by_cases (has_ended x.outcome) (λ e. equal-prefix _ _ (sym (m.ended e).1)) (λ e. m.spent (not-ended x.outcome e))

-- the same backward
events-before : (r : Renaming) (x y : RunOf) → IsMatchedBefore r x y → IsPrefixOf x.events (renamed_events r y.events)
events-before r x y m = by_cases (has_ended x.outcome) (λ e. equal-prefix _ _ (sym (m.ended e).1)) (λ e. m.spent (not-ended x.outcome e))

module _ (r q p : Renaming) (is : IsComposite r q p) where
  -- forward, one after the other
  by-trans : (x y z : RunOf) → IsMatchedBy r x y → IsMatchedBy q y z → IsMatchedBy p x z
  by-trans x y z m n = record {
    ended = λ e. let a = m.ended e in let b = n.ended a.0 in
        (b.0, b.1 ∙ ap (renamed_events q) a.1 ∙ sym (events-twice r q p is x.events), b.2 ∙ ap (renamed_outcome q) a.2 ∙ sym (outcome-twice r q p is x.outcome));
    spent = λ e. subst (λ es. IsPrefixOf es z.events) (sym (events-twice r q p is x.events))
        (prefix-trans _ _ _ (prefix-renamed q _ _ (m.spent e)) (events-by q y z n));
  }

  -- backward, one after the other
  before-trans : (x y z : RunOf) → IsMatchedBefore q x y → IsMatchedBefore r y z → IsMatchedBefore p x z
  before-trans x y z m n = record {
    ended = λ e. let a = m.ended e in let b = n.ended a.0 in
        (b.0, events-twice r q p is z.events ∙ ap (renamed_events q) b.1 ∙ a.1, outcome-twice r q p is z.outcome ∙ ap (renamed_outcome q) b.2 ∙ a.2);
    spent = λ e. subst (λ es. IsPrefixOf x.events es) (sym (events-twice r q p is z.events))
        (prefix-trans _ _ _ (m.spent e) (prefix-renamed q _ _ (events-before r y z n)));
  }

  -- images that are matched one after the other
  pub matched-trans : (i j k : ImageOf Name) → AreMatched i j r → AreMatched j k q → AreMatched i k p
  matched-trans i j k m n = record {
    forward = λ x. let a = m.forward x in let b = n.forward a.0 in (b.0, by-trans (run i x) (run j a.0) (run k b.0) a.1 b.1);
    backward = λ x. let a = n.backward x in let b = m.backward a.0 in (b.0, before-trans (run k x) (run j a.0) (run i b.0) a.1 b.1);
  }

-- renaming keeps whether a run has ended
ended-renamed : (r : Renaming) (o : Outcome) → has_ended (renamed_outcome r o) ≡ has_ended o
ended-renamed r (done v) = refl
ended-renamed r (failed e) = refl
ended-renamed r spent = refl

-- an image is matched by one whose runs are its own renamed
pub matched-renamed : (i j : ImageOf Name) (r : Renaming) → ((n : ℕ) → ((run j n).events ≡ renamed_events r (run i n).events) × ((run j n).outcome ≡ renamed_outcome r (run i n).outcome)) → AreMatched i j r
matched-renamed i j r h = record {
  forward = λ n. (n, record { ended = λ e. (subst IsTrue (sym (ap has_ended (h n).1 ∙ ended-renamed r (run i n).outcome)) e, (h n).0, (h n).1); spent = λ e. equal-prefix _ _ (sym (h n).0) });
  backward = λ n. (n, record { ended = λ e. (subst IsTrue (ap has_ended (h n).1 ∙ ended-renamed r (run i n).outcome) e, sym (h n).0, sym (h n).1); spent = λ e. equal-prefix _ _ (h n).0 });
}

-- an image is matched by one that has its runs
pub matched-runs : (i j : ImageOf Name) → ((n : ℕ) → run i n ≡ run j n) → AreMatched i j no_renaming
matched-runs i j h =
    matched-renamed i j no_renaming (λ n. (ap (λ (x : RunOf). x.events) (sym (h n)) ∙ sym (events-same _), ap (λ (x : RunOf). x.outcome) (sym (h n)) ∙ sym (outcome-same _)))

-- an image is matched by itself
pub matched-same : (i : ImageOf Name) → AreMatched i i no_renaming
matched-same i = matched-runs i i (λ n. refl)
