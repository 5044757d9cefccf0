use Rattle.std.proofs.Common.{refl}
use Rattle.std.proofs.lemmas.Result.{IfOk-weaker}
use Rattle.class_table.specs.View.{image_of}
use Rattle.image_forms.specs.Answers.{NoDoIt, Ran}
use Rattle.browse.proofs.Outcomes.{both_ok}
use Rattle.image_forms.proofs.Refusing.{fault_told}
use Rattle.browse.proofs.run.run_expression.Goals as goal

pub returns-in-Ok : goal.returns-in-Ok
returns-in-Ok c =
    IfOk-weaker c.print_run.result _ _ (λ status ran. Ran (image_of c.add_doit.new.image) c.in-Ok.ensures.added ran.0 ran.1)
    (both_ok c.print_run.result _ _ c.print_run.ensures.status c.print_run.ensures.text)

pub returns-in_ok-push_expression_refusal-in-Err : goal.returns-in_ok-push_expression_refusal-in-Err
returns-in_ok-push_expression_refusal-in-Err c =
    let told = fault_told c.args.expression.now c.in-Err.fault c.push_expression_refusal.new.out c.in-Err.ensures.fault c.in_ok-push_expression_refusal-in-Err.ensures in
    NoDoIt told.0 told.1 refl told.2
