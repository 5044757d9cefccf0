use Rattle.std.proofs.Common.{sym, ap, ◌∙◌}
use Rattle.st_tree.specs.declared.path.Part.{Part}
use Rattle.st_tree.specs.View.{method_of}
use Rattle.command_model.specs.PartConditions.{is_value_unused}
use Rattle.part_questions.specs.Parts.{part_of}
use Rattle.part_questions.proofs.Tests.{within-block}
use Rattle.part_questions.proofs.parts.is_value_unused.Goals as goal

pub returns-else-len-eq0 : goal.returns-else-len-eq0
returns-else-len-eq0 c =
    within-block (method_of c.args.method.now) c.in-Run.path c.statements_at-all.result.now c.in-Run.first c.in-Run.count c.saturating_sub.result
    (λ e. c.if-len-eq0.false (c.len.ensures ∙ e)) c.statements_at-all.ensures c.saturating_sub.ensures
    ∙ ap (λ (p : Part). is_value_unused (method_of c.args.method.now) (part_of p)) (sym c.in-Run.is)
