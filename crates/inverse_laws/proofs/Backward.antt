-- Images that are matched the other way.
use Rattle.std.proofs.Common.{◌≡◌, ℕ, sym, ap, ◌∙◌, subst}
use Rattle.image_model.specs.Image.{ImageOf}
use Rattle.run_model.specs.Values.{Name}
use Rattle.run_model.specs.Prefixes.{IsPrefixOf}
use Rattle.run_model.specs.Runs.{RunOf, run}
use Rattle.run_model.specs.Renamings.{Renaming, renamed_events, renamed_outcome}
use Rattle.run_model.specs.Matched.{IsMatchedBy, IsMatchedBefore, AreMatched}
use Rattle.run_model.proofs.MatchedLemmas.{prefix-renamed}
use Rattle.mapped_model.specs.RenamedRuns.{RunsAsRenamed}

-- each run of an image has its names back after both renamings
pub record HasNamesBack (i : ImageOf Name) (r q : Renaming) : Type 0 where
  pub events : (n : ℕ) → renamed_events q (renamed_events r (run i n).events) ≡ (run i n).events
  pub outcome : (n : ℕ) → renamed_outcome q (renamed_outcome r (run i n).outcome) ≡ (run i n).outcome

module _ (i : ImageOf Name) (r q : Renaming) (back : HasNamesBack i r q) where
  -- a run of the image after is matched by one of the image before
  before-by : (x : RunOf) (n : ℕ) → IsMatchedBefore r x (run i n) → IsMatchedBy q x (run i n)
  before-by x n m = record {
    ended = λ e. let b = m.ended e in (b.0, sym (back.events n) ∙ ap (renamed_events q) b.1, sym (back.outcome n) ∙ ap (renamed_outcome q) b.2);
    spent = λ e. subst (λ es. IsPrefixOf (renamed_events q x.events) es) (back.events n) (prefix-renamed q x.events (renamed_events r (run i n).events) (m.spent e));
  }

  -- and one of the image before by one of the image after
  by-before : (n : ℕ) (y : RunOf) → IsMatchedBy r (run i n) y → IsMatchedBefore q (run i n) y
  by-before n y m = record {
    ended = λ e. let b = m.ended e in (b.0, ap (renamed_events q) b.1 ∙ back.events n, ap (renamed_outcome q) b.2 ∙ back.outcome n);
    spent = λ e. subst (λ es. IsPrefixOf es (renamed_events q y.events)) (back.events n) (prefix-renamed q (renamed_events r (run i n).events) y.events (m.spent e));
  }

  pub matched-back : (j : ImageOf Name) → AreMatched i j r → AreMatched j i q
  matched-back j h = record {
    forward = λ n. let a = h.backward n in (a.0, before-by (run j n) a.0 a.1);
    backward = λ n. let a = h.forward n in (a.0, by-before n (run j a.0) a.1);
  }

  pub runs-back : (j : ImageOf Name) → RunsAsRenamed i j r → RunsAsRenamed j i q
  runs-back j h = record {
    events = λ n. sym (back.events n) ∙ sym (ap (renamed_events q) (h.events n));
    outcome = λ n. sym (back.outcome n) ∙ sym (ap (renamed_outcome q) (h.outcome n));
    ticks = λ n. sym (h.ticks n);
    matched = matched-back j h.matched;
  }
