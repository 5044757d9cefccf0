-- Runs of the do-its of an image whose names are resolved.
use Rattle.std.specs.Prelude.{ℕ, ◌+◌, ◌*◌, false, List, [], ◌∷◌}
use Rattle.run_model.specs.Values.{Value, nil_value}
use Rattle.run_model.specs.Store.{start, Result}
use Rattle.run_model.specs.Eval.{makes_home}
use Rattle.run_model.specs.Runs.{RunOf, seen}
use Rattle.resolved_model.specs.ResolvedTrees.{ResolvedCode}
use Rattle.resolved_model.specs.ResolvedImages.{ResolvedImage, class_of_doits}
use Rattle.resolved_model.specs.ResolvedActs.{ResolvedOperations, resolved_acts}
use Rattle.resolved_model.specs.ResolvedEval.{ResolvedEvaluator, does_code, first_frame, resolved_eval}

module _ (w : ResolvedOperations) where
  -- a do-it: its statements in a new home, where self is nil
  abbrev pub runs_doit : ResolvedImage → ResolvedEvaluator w → ResolvedCode → w.plain.Act Value
  runs_doit i go d =
      w.plain.and_then (makes_home w.plain) (λ h. w.plain.at_home h (does_code w go (first_frame (class_of_doits i) false nil_value h) [] d))

  -- do-its in order; v is the value of the one before
  abbrev pub runs_doits : ResolvedImage → ResolvedEvaluator w → Value → List ResolvedCode → w.plain.Act Value
  runs_doits i go v [] = w.plain.gives v
  runs_doits i go v (d ∷ ds) = w.plain.and_then (runs_doit i go d) (λ u. runs_doits i go u ds)

  -- the do-its of an image in order, with so much depth
  abbrev pub runs_all : ResolvedImage → ℕ → w.plain.Act Value
  runs_all i d = runs_doits i (resolved_eval w i d) nil_value i.doits

-- what the do-its of an image come to with so much depth and so many ticks
abbrev pub resolved_comes_to : ResolvedImage → ℕ → ℕ → Result Value
resolved_comes_to i d n = (runs_all resolved_acts i d [] (start n)).0

-- the run with so much depth and so many ticks
abbrev pub resolved_run_to : ResolvedImage → ℕ → ℕ → RunOf
resolved_run_to i d n = seen n (resolved_comes_to i d n)

-- the run with n ticks, which has depth 2 n + 2
unfoldable pub resolved_run : ResolvedImage → ℕ → RunOf
resolved_run i n = resolved_run_to i (2 * n + 2) n
