use Rattle.std.proofs.Common.{refl}
use Rattle.class_table.specs.View.{image_of}
use Rattle.std.proofs.lemmas.Result.{IfOk-weaker}
use Rattle.image_forms.specs.Answers.{NoImage, InImage}
use Rattle.image_forms.proofs.Refusing.{refusal_told}
use Rattle.browse.proofs.run.run_text.Goals as goal

pub returns-in-Ok : goal.returns-in-Ok
returns-in-Ok c =
    IfOk-weaker c.run_expression.result _ _ (λ status ran. InImage (image_of c.in-Ok.image) c.in-Ok.ensures.ok.image ran) c.run_expression.ensures

pub returns-in_ok-push_image_refusal-in-Err-Refused : goal.returns-in_ok-push_image_refusal-in-Err-Refused
returns-in_ok-push_image_refusal-in-Err-Refused c =
    let told = refusal_told c.args.text.now c.in-Err-Refused.chunk c.in-Err-Refused.at c.in-Err-Refused.cause c.push_image_refusal.new.out (rw c.in-Err-Refused.field-0-is at c.in-Err-Refused.ensures.err) c.in_ok-push_image_refusal-in-Err-Refused.ensures in
    NoImage told.0 told.1 refl told.2
