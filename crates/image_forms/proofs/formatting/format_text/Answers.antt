use Rattle.std.proofs.Common.{◌++◌, ◌∙◌, refl, ap, List, ℕ}
use Rattle.class_table.specs.View.{image_of}
use Rattle.file_model.specs.Written.{file_of}
use Rattle.image_forms.specs.Answers.{Formatted, Refused}
use Rattle.image_forms.proofs.Refusing.{refusal_told}
use Rattle.image_forms.proofs.formatting.format_text.Goals as goal

pub returns-in_ok-write_image-in-Ok : goal.returns-in_ok-write_image-in-Ok
returns-in_ok-write_image-in-Ok c =
    Formatted (image_of c.in-Ok.image) c.in-Ok.ensures.ok.image refl
    (c.in_ok-write_image-in-Ok.ensures.ok ∙ ap (λ (t : List ℕ). t ++ file_of (image_of c.format_image.new.image)) c.requires ∙ ap file_of c.in_ok-format_image-in-Ok.ensures.formatted)

pub returns-in_ok-push_image_refusal-in-Err-Refused : goal.returns-in_ok-push_image_refusal-in-Err-Refused
returns-in_ok-push_image_refusal-in-Err-Refused c =
    let told = refusal_told c.args.text.now c.in-Err-Refused.chunk c.in-Err-Refused.at c.in-Err-Refused.cause c.push_image_refusal.new.out (rw c.in-Err-Refused.field-0-is at c.in-Err-Refused.ensures.err) c.in_ok-push_image_refusal-in-Err-Refused.ensures in
    Refused told.0 told.1 refl told.2
