-- Equal runs are those of images with nothing renamed.
use Rattle.std.proofs.Common.{◌≡◌, ℕ, sym, ap, ◌∙◌}
use Rattle.image_model.specs.Image.{ImageOf}
use Rattle.run_model.specs.Values.{Name}
use Rattle.run_model.specs.Runs.{run}
use Rattle.run_model.specs.Renamings.{no_renaming}
use Rattle.run_model.proofs.RenamingLemmas.{events-same, outcome-same}
use Rattle.run_model.proofs.MatchedLemmas.{matched-runs}
use Rattle.mapped_model.specs.RenamedRuns.{RunsAsRenamed}

pub same-renamed : (i j : ImageOf Name) → ((n : ℕ) → run j n ≡ run i n) → RunsAsRenamed i j no_renaming
same-renamed i j same = record {
  events = λ n. ap (λ x. x.events) (same n) ∙ sym (events-same (run i n).events);
  outcome = λ n. ap (λ x. x.outcome) (same n) ∙ sym (outcome-same (run i n).outcome);
  ticks = λ n. ap (λ x. x.ticks) (same n);
  matched = matched-runs i j (λ n. sym (same n));
}
