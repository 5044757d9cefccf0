use Rattle.std.proofs.Common.{[], ◌∙◌}
use Rattle.std.specs.Prelude.{◌≢◌}
use Rattle.token_model.specs.declared.kind.Dialect.{Dialect}
use Rattle.st_kernel.specs.KernelText.{prelude_text}
use Rattle.image_model.specs.Image.{ClassOf, EntryOf, DoItOf, ImageOf}
use Rattle.image_model.specs.Words.{text_words}
use Rattle.image_model.specs.Means.{means, means_in_doit}
use Rattle.image_model.specs.Valid.{GivesNames, IsUserDoIt, IsValid}
use Rattle.image_model.proofs.Lists.{all-implies}
use Rattle.mapped_model.specs.NamesOfImages.{HasOrderedClasses}
use Rattle.file_model.specs.Filing.{Text}
use Rattle.file_model.specs.Fileable.{reading_of}
use Rattle.rename_laws.specs.BehindKernel.{AssignsNothingFixed}
use Rattle.file_out_laws.proofs.Spelled.{IsSpelled, valid_spelled}
use Rattle.file_out_laws.proofs.KernelWords.{words_kept, doits_kernel, given_some}
use Rattle.file_out_laws.proofs.renamings.every_image_may_be_renamed.Goals as goal

-- a valid image has its classes in order
ordered : (d : Dialect) (kernel image : ImageOf Text) → IsValid text_words (reading_of d kernel) image → HasOrderedClasses image
ordered d kernel image valid = record {
  named = all-implies (GivesNames (reading_of d kernel).IsName) (λ (x : ClassOf Text). x.name ≢ []) (λ x gives. given_some x.name gives.name) image.classes valid.names_may_be_given;
  distinct = valid.class_names_distinct;
  before = valid.superclasses_before;
}

pub returns-clause-behind_kernel : goal.returns-clause-behind_kernel
returns-clause-behind_kernel c dialect kernel image is valid =
    let classes = valid.kernel_classes ∙ c.kernel_has_these_classes.ensures dialect kernel is in
    record {
      ordered = ordered dialect kernel image valid;
      words = words_kept image valid.class_names_distinct classes;
      classes_there = valid.method_classes_there;
      methods =
          all-implies (IsSpelled dialect) (λ (m : EntryOf Text). AssignsNothingFixed (means text_words image m) m.tree.body)
          (λ m spells. c.law_assigned_names.ensures.method dialect m.kernel image m.source m spells) image.methods (valid_spelled dialect prelude_text kernel image is valid);
      doits =
          all-implies (IsUserDoIt (reading_of dialect kernel)) (λ (x : DoItOf Text). AssignsNothingFixed (means_in_doit text_words image x) x.body)
          (λ x user. c.law_assigned_names.ensures.doit dialect image x.source x user.spells) image.doits valid.doits;
    }

pub returns-clause-instance_once : goal.returns-clause-instance_once
returns-clause-instance_once c dialect kernel image is valid =
    let classes = valid.kernel_classes ∙ c.kernel_has_these_classes.ensures dialect kernel is in
    record { ordered = ordered dialect kernel image valid; once = valid.instance_variables_once; doits = doits_kernel image valid.class_names_distinct classes valid.superclasses_before }

pub returns-clause-class_side_once : goal.returns-clause-class_side_once
returns-clause-class_side_once c dialect kernel image is valid =
    let classes = valid.kernel_classes ∙ c.kernel_has_these_classes.ensures dialect kernel is in
    record { ordered = ordered dialect kernel image valid; once = valid.class_side_variables_once; doits = doits_kernel image valid.class_names_distinct classes valid.superclasses_before }
