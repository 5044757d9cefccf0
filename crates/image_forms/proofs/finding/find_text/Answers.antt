use Rattle.std.proofs.Common.{refl}
use Rattle.class_table.specs.View.{image_of}
use Rattle.st_kernel.specs.KernelText.{prelude_text}
use Rattle.image_forms.specs.Answers.{NoImageThere, Found}
use Rattle.image_forms.proofs.Refusing.{refusal_told}
use Rattle.image_forms.proofs.Spelled.{are_spelled}
use Rattle.image_forms.proofs.finding.find_text.Goals as goal

pub report_in-requires-clause-spelled : goal.report_in-requires-clause-spelled
report_in-requires-clause-spelled c = are_spelled prelude_text c.args.text.now (image_of c.in-Ok.image) c.in-Ok.ensures.ok.image

pub returns-in_ok-report_in-in-Ok : goal.returns-in_ok-report_in-in-Ok
returns-in_ok-report_in-in-Ok c = Found (image_of c.in-Ok.image) c.in-Ok.ensures.ok.image c.in_ok-report_in-in-Ok.ensures refl

pub returns-in_ok-push_image_refusal-in-Err-Refused : goal.returns-in_ok-push_image_refusal-in-Err-Refused
returns-in_ok-push_image_refusal-in-Err-Refused c =
    let told = refusal_told c.args.text.now c.in-Err-Refused.chunk c.in-Err-Refused.at c.in-Err-Refused.cause c.push_image_refusal.new.out (rw c.in-Err-Refused.field-0-is at c.in-Err-Refused.ensures.err) c.in_ok-push_image_refusal-in-Err-Refused.ensures in
    NoImageThere told.0 told.1 refl told.2
