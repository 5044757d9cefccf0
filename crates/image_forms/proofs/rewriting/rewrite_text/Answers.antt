use Rattle.std.proofs.Common.{refl}
use Rattle.class_table.specs.View.{image_of}
use Rattle.image_forms.specs.Answers.{Unread, Read}
use Rattle.image_forms.proofs.Refusing.{refusal_told}
use Rattle.image_forms.proofs.rewriting.rewrite_text.Goals as goal

pub returns-in_ok-status-in-Ok : goal.returns-in_ok-status-in-Ok
returns-in_ok-status-in-Ok c = Read (image_of c.in-Ok.image) c.in-Ok.ensures.ok.image c.in_ok-status-in-Ok.ensures

pub returns-in_ok-push_image_refusal-in-Err-Refused : goal.returns-in_ok-push_image_refusal-in-Err-Refused
returns-in_ok-push_image_refusal-in-Err-Refused c =
    let told = refusal_told c.args.text.now c.in-Err-Refused.chunk c.in-Err-Refused.at c.in-Err-Refused.cause c.push_image_refusal.new.out (rw c.in-Err-Refused.field-0-is at c.in-Err-Refused.ensures.err) c.in_ok-push_image_refusal-in-Err-Refused.ensures in
    Unread told.0 told.1 refl told.2
