use Rattle.std.proofs.Common.{refl}
use Rattle.class_table.specs.View.{image_of}
use Rattle.std.proofs.lemmas.Result.{IfOk-weaker}
use Rattle.st_kernel.specs.KernelText.{prelude_text}
use Rattle.image_forms.specs.Answers.{Unread, Read}
use Rattle.image_forms.proofs.Refusing.{refusal_told}
use Rattle.image_forms.proofs.Spelled.{are_spelled}
use Rattle.image_forms.proofs.searching.search_text.Goals as goal

pub search_image-requires-clause-spelled : goal.search_image-requires-clause-spelled
search_image-requires-clause-spelled c = are_spelled prelude_text c.args.text.now (image_of c.in-Ok.image) c.in-Ok.ensures.ok.image

pub returns-in-Ok : goal.returns-in-Ok
returns-in-Ok c =
    IfOk-weaker c.search_image.result _ _ (λ status answered. Read (image_of c.in-Ok.image) c.in-Ok.ensures.ok.image answered) c.search_image.ensures

pub returns-in_ok-push_image_refusal-in-Err-Refused : goal.returns-in_ok-push_image_refusal-in-Err-Refused
returns-in_ok-push_image_refusal-in-Err-Refused c =
    let told = refusal_told c.args.text.now c.in-Err-Refused.chunk c.in-Err-Refused.at c.in-Err-Refused.cause c.push_image_refusal.new.out (rw c.in-Err-Refused.field-0-is at c.in-Err-Refused.ensures.err) c.in_ok-push_image_refusal-in-Err-Refused.ensures in
    Unread told.0 told.1 refl told.2
