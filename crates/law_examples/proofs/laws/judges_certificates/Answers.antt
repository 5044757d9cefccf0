use Rattle.std.proofs.Common.{refl, []}
use Rattle.certified_model.specs.LawSteps.{same_meta_step, same_var_step, no_line_stepped, line_stepped, step_1, step_2, step_4}
use Rattle.certified_model.proofs.TableSteps.{run-step}
use Rattle.law_examples.proofs.laws.judges_certificates.Goals as goal

pub returns-clause-computed : goal.returns-clause-computed
returns-clause-computed c = record {
  one = refl;
  two = refl;
  other_law = refl;
  inside = refl;
  doubled = refl;
  behind = refl;
  none = refl;
  seven = refl;
  not_back = refl;
  no_statement = refl;
  no_name = refl;
  stuck_first = refl;
  stuck_second = refl;
  stuck_behind = refl;
}

pub returns-clause-one_step : goal.returns-clause-one_step
returns-clause-one_step c = step_4 [] [] [] [] (same_meta_step _) (run-step _)

pub returns-clause-two_steps : goal.returns-clause-two_steps
returns-clause-two_steps c = (
  step_2 [] [] [] [] (same_meta_step _) (run-step _),
  step_1 [] [] [] [] (same_meta_step _) (run-step _) (line_stepped [] [] (same_var_step _) no_line_stepped),
)
