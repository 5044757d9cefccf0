-- The pairs of the table of laws are steps.
use Rattle.std.proofs.Common.{[], refl}
use Rattle.std.specs.List.{AllByRecursion}
use Rattle.run_model.specs.Values.{Name}
use Rattle.pattern_model.specs.Patterns.{MetaOf, meta, no_statements_like, more_statements_like}
use Rattle.certified_model.specs.Certificates.{laws}
use Rattle.certified_model.specs.LawSteps.{Stepped, same_meta_step, in_block_step, step_1, step_2, step_3, step_4, step_5, step_6, step_7, step_8, step_10, LinesStepped, no_line_stepped, line_stepped, step_9}

-- a list of statements that is one metavariable
pub run-step : (m : MetaOf Name) → LinesStepped (more_statements_like [] (meta m) no_statements_like) (more_statements_like [] (meta m) no_statements_like)
run-step m = line_stepped [] [] (same_meta_step m) no_line_stepped

pub table-steps : AllByRecursion (λ l. Stepped l.0 l.1) laws
table-steps = (
  step_1 [] [] [] [] (same_meta_step _) (run-step _) (run-step _),
  (
    step_2 [] [] [] [] (same_meta_step _) (run-step _),
    (
      step_3 [] [] [] [] (same_meta_step _) (run-step _),
      (
        step_4 [] [] [] [] (same_meta_step _) (run-step _),
        (
          step_5 [] [] [] [] (same_meta_step _) (run-step _),
          (
            step_6 [] [] [] [] (same_meta_step _) (run-step _),
            (
              step_7 [] [] [] [] [] [] [] [] (same_meta_step _) (same_meta_step _) (same_meta_step _) refl refl,
              (
                step_8 [] [] [] [] [] [] [] [] (same_meta_step _) (same_meta_step _) (same_meta_step _) refl refl,
                (
                  in_block_step [] [] [] [] (line_stepped [] [] (same_meta_step _) (step_9 [] [] [] _ _ tt tt no_line_stepped)),
                  (
                    in_block_step [] [] [] [] (line_stepped [] [] (same_meta_step _) (line_stepped [] [] (step_10 [] [] [] [] [] [] [] [] (same_meta_step _) (same_meta_step _) (same_meta_step _) refl refl) no_line_stepped)),
                    tt,
                  ),
                ),
              ),
            ),
          ),
        ),
      ),
    ),
  ),
)
