use Rattle.std.proofs.Common.{◌≡◌, ℕ, sym, ap, ◌∙◌, subst}
use Rattle.std.specs.Prelude.{◌≤◌}
use Rattle.token_model.specs.declared.kind.Dialect.TheVariants.{Second}
use Rattle.st_kernel.specs.KernelText.{prelude_text}
use Rattle.image_model.specs.Image.{ImageOf}
use Rattle.run_model.specs.Runs.{run}
use Rattle.file_model.specs.Filing.{Text}
use Rattle.file_model.specs.Reading.{IsImageOf}
use Rattle.file_model.specs.Refusals.{method_limit}
use Rattle.file_model.specs.Written.{file_of}
use Rattle.file_rereading.specs.Rereading.{with_heads}
use Rattle.canonical_image.specs.Formatted.{formatted_entry, formatted}
use Rattle.format_laws.specs.Empty.{HasNoEmptyDoIt}
use Rattle.format_laws.proofs.Written.{length-kept, heads-twice}
use Rattle.format_laws.proofs.laws.law_formatted_files.Goals as goal

pub returns : goal.returns
returns k = record {
  read_again = again;
  run_again = λ text image other n is some read. ap (λ i. run i n) (one text image other is some read) ∙ k.law_formatted_images.ensures.run_again image n;
  same_text = λ text image other is some read.
      ap (λ i. file_of (formatted i)) (one text image other is some read) ∙ ap file_of (heads-twice image) ∙ k.writes_the_same_again.ensures (formatted image);
}
  where
    again : (text : Text) (image : ImageOf Text) → IsImageOf Second prelude_text text image → HasNoEmptyDoIt image → IsImageOf Second prelude_text (file_of (formatted image)) (with_heads (formatted image))
    again text image is some =
        let valid = k.every_image_is_valid.ensures.valid Second text is.kernel image is.is_kernel is in
        let fileable = k.every_image_is_valid.ensures.fileable Second text is.kernel image is.is_kernel is in
        let first = k.every_image_is_valid.ensures.first Second text is.kernel image is.is_kernel is in
        let limits = k.keeps_the_kernel_first.ensures.limits Second prelude_text text image is in
        k.every_image_is_read_again.ensures.written is.kernel (formatted image) is.is_kernel (k.law_formatted_images.ensures.first is.kernel image valid first) (k.law_formatted_images.ensures.valid is.kernel image valid)
        (k.law_formatted_images.ensures.fileable is.kernel image some valid fileable)
        (record { classes = limits.classes; methods = subst (λ (n : ℕ). n ≤ method_limit) (sym (length-kept formatted_entry image.methods)) limits.methods })

    -- what is read again is that image
    one : (text : Text) (image other : ImageOf Text) → IsImageOf Second prelude_text text image → HasNoEmptyDoIt image → IsImageOf Second prelude_text (file_of (formatted image)) other → other ≡ with_heads (formatted image)
    one text image other is some read = k.has_one_image.ensures.one_image Second prelude_text (file_of (formatted image)) other (with_heads (formatted image)) read (again text image is some)
