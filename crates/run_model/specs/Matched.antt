-- When the runs of two images match each other, up to a renaming.
use Rattle.std.specs.Prelude.{◌≡◌, ℕ, IsTrue}
use Rattle.image_model.specs.Image.{ImageOf}
use Rattle.run_model.specs.Values.{Name, spent}
use Rattle.run_model.specs.Prefixes.{IsPrefixOf}
use Rattle.run_model.specs.Runs.{RunOf, run, has_ended}
use Rattle.run_model.specs.Renamings.{Renaming, renamed_events, renamed_outcome}

-- A run x of the image before is matched by a run y of the image after: where x has ended, so has y, with the renamed events and outcome of x; where x is spent, its renamed events are a prefix of those of y.
pub record IsMatchedBy (r : Renaming) (x y : RunOf) : Type 0 where
  pub ended : IsTrue (has_ended x.outcome) → IsTrue (has_ended y.outcome) × (y.events ≡ renamed_events r x.events) × (y.outcome ≡ renamed_outcome r x.outcome)
  pub spent : x.outcome ≡ spent → IsPrefixOf (renamed_events r x.events) y.events

-- A run x of the image after is matched by a run y of the image before: where x has ended, so has y, and the renamed events and outcome of y are those of x; where x is spent, its events are a prefix of the renamed ones of y.
pub record IsMatchedBefore (r : Renaming) (x y : RunOf) : Type 0 where
  pub ended : IsTrue (has_ended x.outcome) → IsTrue (has_ended y.outcome) × (renamed_events r y.events ≡ x.events) × (renamed_outcome r y.outcome ≡ x.outcome)
  pub spent : x.outcome ≡ spent → IsPrefixOf x.events (renamed_events r y.events)

-- each run of the image before is matched by one of the image after, and each run of that by one of the image before; the numbers of ticks may differ
pub record AreMatched (before after : ImageOf Name) (r : Renaming) : Type 0 where
  pub forward : (n : ℕ) → (m : ℕ) × IsMatchedBy r (run before n) (run after m)
  pub backward : (n : ℕ) → (m : ℕ) × IsMatchedBefore r (run after n) (run before m)
