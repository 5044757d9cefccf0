-- When an image runs as another one does, with other names.
use Rattle.std.specs.Prelude.{◌≡◌, ℕ}
use Rattle.image_model.specs.Image.{ImageOf}
use Rattle.run_model.specs.Values.{Name}
use Rattle.run_model.specs.Runs.{run}
use Rattle.run_model.specs.Renamings.{Renaming, renamed_events, renamed_outcome}
use Rattle.run_model.specs.Matched.{AreMatched}

-- For each number of ticks, the run of the image after tells the renamed events of that of the image before, comes out as that one does, with renamed names, and takes as many ticks; so the one image is matched by the other.
pub record RunsAsRenamed (before after : ImageOf Name) (r : Renaming) : Type 0 where
  pub events : (n : ℕ) → (run after n).events ≡ renamed_events r (run before n).events
  pub outcome : (n : ℕ) → (run after n).outcome ≡ renamed_outcome r (run before n).outcome
  pub ticks : (n : ℕ) → (run after n).ticks ≡ (run before n).ticks
  pub matched : AreMatched before after r
