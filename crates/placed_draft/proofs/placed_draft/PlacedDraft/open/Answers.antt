use Rattle.std.proofs.Common.{is_some, sym, ap, ◌∙◌}
use Rattle.file_model.specs.Causes.{first_cause}
use Rattle.placed_draft.proofs.Answered.{runs_alike}
use Rattle.placed_draft.proofs.placed_draft.PlacedDraft.open.Goals as goal

pub returns-then-is_none-clause-cause : goal.returns-then-is_none-clause-cause
returns-then-is_none-clause-cause c = c.open-refusal.ensures.cause ∙ ap first_cause (sym (runs_alike c.args.self.now c.requires c.args.run))

pub returns-then-is_none-clause-some : goal.returns-then-is_none-clause-some
returns-then-is_none-clause-some c = c.open-refusal.ensures.some ∙ ap (λ cs. is_some (first_cause cs)) (sym (runs_alike c.args.self.now c.requires c.args.run))

pub returns-else-is_none-clause-cause : goal.returns-else-is_none-clause-cause
returns-else-is_none-clause-cause c = c.open-refusal.ensures.cause ∙ ap first_cause (sym (runs_alike c.args.self.now c.requires c.args.run))

pub returns-else-is_none-clause-some : goal.returns-else-is_none-clause-some
returns-else-is_none-clause-some c = c.open-refusal.ensures.some ∙ ap (λ cs. is_some (first_cause cs)) (sym (runs_alike c.args.self.now c.requires c.args.run))
