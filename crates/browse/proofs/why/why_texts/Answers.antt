use Rattle.std.proofs.Common.{refl}
use Rattle.class_table.specs.View.{image_of}
use Rattle.apply_model.specs.declared.status.Status.TheVariants as verdict
use Rattle.why_model.specs.Why.{NoImage, InImage}
use Rattle.image_forms.proofs.Refusing.{refusal_told}
use Rattle.browse.proofs.why.why_texts.Goals as goal

pub returns-in_ok-verdict-in-Ok : goal.returns-in_ok-verdict-in-Ok
returns-in_ok-verdict-in-Ok c = record {
  verdict = c.in_ok-verdict-in-Ok.verdict;
  why = InImage (image_of c.in-Ok.image) c.in-Ok.ensures.ok.image c.in_ok-verdict-in-Ok.ensures.answered;
  status = c.status_of.ensures;
}

pub returns-in_ok-push_image_refusal-in-Err-Refused : goal.returns-in_ok-push_image_refusal-in-Err-Refused
returns-in_ok-push_image_refusal-in-Err-Refused c =
    let told = refusal_told c.args.text.now c.in-Err-Refused.chunk c.in-Err-Refused.at c.in-Err-Refused.cause c.push_image_refusal.new.out (rw c.in-Err-Refused.field-0-is at c.in-Err-Refused.ensures.err) c.in_ok-push_image_refusal-in-Err-Refused.ensures in
    record { verdict = verdict.ImageText; why = NoImage told.0 told.1 refl told.2; status = refl }
