use Rattle.std.proofs.Common.{◌≡◌, ℕ, sym, ap, ◌∙◌}
use Rattle.std.specs.Prelude.{not}
use Rattle.image_model.specs.Image.{ImageOf}
use Rattle.run_model.specs.Values.{Name}
use Rattle.run_model.specs.Runs.{RunOf, run}
use Rattle.run_model.proofs.Finite.{and-true_left}
use Rattle.run_model.proofs.RenamingLemmas.{events-same, outcome-same}
use Rattle.run_model.proofs.MatchedLemmas.{matched-renamed}
use Rattle.rename_model.specs.CommandWords.{may_be_declared, begins_upper}
use Rattle.rename_laws.proofs.GoodNames.{proper-name}
use Rattle.rename_model.specs.OneRenamed.{one_temporary}
use Rattle.command_model.specs.Asked.{text_asked}
use Rattle.command_model.specs.Commands.{RenameTemp}
use Rattle.command_model.specs.Effects.{effect}
use Rattle.temporary_laws.proofs.Images.{image-kept}
use Rattle.temporary_laws.proofs.laws.law_renamed_temporary.Goals as goal

pub returns : goal.returns
returns k = record {
  matched = λ writing i c meta s x y behind once good free.
      let j : ImageOf Name = effect text_asked writing (RenameTemp c meta s x y) i in
      let same = image-kept writing c meta s x y i behind once (proper-name y (and-true_left (may_be_declared y) (not (begins_upper y)) good)) free in
      let runs : (n : ℕ) → run j n ≡ run i n = λ n. sym (k.law_same_resolved.ensures.run i j n same) in
      record {
        events = λ n. ap (λ (r : RunOf). r.events) (runs n) ∙ sym (events-same (run i n).events);
        outcome = λ n. ap (λ (r : RunOf). r.outcome) (runs n) ∙ sym (outcome-same (run i n).outcome);
        ticks = λ n. ap (λ (r : RunOf). r.ticks) (runs n);
        matched =
            matched-renamed i j (one_temporary c meta s x y)
            (λ n. (ap (λ (r : RunOf). r.events) (runs n) ∙ sym (events-same (run i n).events), ap (λ (r : RunOf). r.outcome) (runs n) ∙ sym (outcome-same (run i n).outcome)));
      };
}
