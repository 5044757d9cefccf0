use Rattle.token_model.specs.declared.kind.Dialect.TheVariants.{Second}
use Rattle.command_laws.proofs.Matched.{effect-matched}
use Rattle.command_laws.proofs.laws.law_effect.Goals as goal

pub returns : goal.returns
returns k = λ kernel is command spelled.
    record {
      valid = λ i sound none. k.law_code_effect_valid.ensures.valid kernel i command is sound spelled.0 spelled.2 none;
      fileable = λ i sound may none. k.law_code_effect_valid.ensures.fileable kernel i command is sound spelled.0 spelled.2 spelled.1 none may;
      first = λ i sound first none. k.law_code_effect_valid.ensures.first kernel i command is sound spelled.0 spelled.2 none first;
      matched = λ i sound none.
          effect-matched i (λ c still fits. k.law_matched_commands.ensures Second kernel i c is sound still fits)
          (λ c x setter given fits called. (k.law_abstracted_images.ensures.image Second kernel i c x setter given is sound fits called).0)
          k.law_accessor_names.ensures
          (λ c meta s from to t fits. (k.law_extracted_images.ensures.image Second kernel i c meta s from to t is sound fits).0)
          (λ c meta s from to fits. (k.law_inlined_images.ensures.image Second kernel i c meta s from to is sound fits).0)
          (λ c meta s from to x fits. (k.law_extracted_images-2.ensures Second kernel i c meta s from to x sound fits).0)
          (λ c meta s x fits. (k.law_inlined_temporary_images.ensures Second kernel i c meta s x sound fits).0)
          command spelled.2 none;
    }
