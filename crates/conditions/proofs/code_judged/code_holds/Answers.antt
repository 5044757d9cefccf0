use Rattle.std.proofs.Common.{◌≡◌, ℕ, sym, ap, subst, ◌∙◌}
use Rattle.std.specs.Prelude.{IfOk}
use Rattle.class_table.specs.View.{number_image}
use Rattle.command_model.specs.CodeHolds.{code_holds}
use Rattle.command_model.specs.Conditions.{ConditionOf}
use Rattle.commands.specs.Views.{asked_by, command_of, condition_of}
use Rattle.conditions.proofs.code_judged.code_holds.Goals as goal

pub returns-in-AtomLiteral : goal.returns-in-AtomLiteral
returns-in-AtomLiteral g c =
    let i = number_image c.args.image.now in
    c.passes_atom.ensures i ∙ (λ j. code_holds (asked_by (c.names.ensures j)) i (command_of c.args.command.now) (condition_of (sym c.in-AtomLiteral.is j)))

pub returns-in-Inlinable : goal.returns-in-Inlinable
returns-in-Inlinable g c =
    let s = c.args.image.now in
    subst (λ (q : ConditionOf ℕ). IfOk c.is_target_inlinable.result (λ is. is ≡ code_holds (asked_by s.names) (number_image s) (command_of c.args.command.now) q)) (sym (ap condition_of c.in-Inlinable.is))
    (c.is_target_inlinable.ensures c.in-Inlinable.field-0 c.in-Inlinable.is)
