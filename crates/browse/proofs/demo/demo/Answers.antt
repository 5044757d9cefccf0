use Rattle.std.proofs.Common.{ℕ, List, ◌++◌, refl, ap, subst, ◌∙◌}
use Rattle.token_model.specs.declared.kind.Dialect.TheVariants.{Second}
use Rattle.st_kernel.specs.KernelText.{prelude_text}
use Rattle.class_table.specs.View.{image_of}
use Rattle.file_model.specs.Reading.{IsImageOf, HasRefusal}
use Rattle.image_maker.specs.Generated.{image_text}
use Rattle.image_forms.specs.Answers.{Unread, Read}
use Rattle.image_forms.proofs.Refusing.{refusal_told}
use Rattle.browse.proofs.demo.demo.Goals as goal

pub returns-in-Ok : goal.returns-in-Ok
returns-in-Ok c =
    Read (image_of c.in-Ok.image)
    (subst (λ (t : List ℕ). IsImageOf Second prelude_text t (image_of c.in-Ok.image)) (c.as_slice.ensures ∙ c.in_ok-make_image.ensures.made ∙ ap (λ (t : List ℕ). t ++ image_text c.args.classes) c.new-text.ensures) c.in-Ok.ensures.ok.image) c.in_ok-status-in-Ok.ensures

pub returns-in-Err-Refused : goal.returns-in-Err-Refused
returns-in-Err-Refused c =
    let told = refusal_told c.as_slice.result.now c.in-Err-Refused.chunk c.in-Err-Refused.at c.in-Err-Refused.cause c.push_image_refusal.new.out (rw c.in-Err-Refused.field-0-is at c.in-Err-Refused.ensures.err) c.in_ok-push_image_refusal-in-Err-Refused.ensures in
    Unread told.0 (subst (λ (t : List ℕ). HasRefusal Second prelude_text t told.0) (c.as_slice.ensures ∙ c.in_ok-make_image.ensures.made ∙ ap (λ (t : List ℕ). t ++ image_text c.args.classes) c.new-text.ensures) told.1) refl told.2
