use Rattle.std.proofs.Common.{arith}
use Rattle.token_model.specs.declared.kind.Dialect.TheVariants.{Second}
use Rattle.st_kernel.specs.KernelText.{prelude_text}
use Rattle.image_model.specs.Image.{ImageOf}
use Rattle.image_model.specs.Valid.{IsValid}
use Rattle.image_model.specs.Words.{text_words}
use Rattle.file_model.specs.Fileable.{reading_of}
use Rattle.file_model.specs.Filing.{Text}
use Rattle.file_rereading.specs.Rereading.{KernelFirst}
use Rattle.change_laws.specs.Images.{CanBeMade}
use Rattle.change_file_laws.specs.Other.{IsOtherOf}
use Rattle.change_file_laws.proofs.Nothing.{text_empty, empty_text}
use Rattle.change_file_laws.proofs.laws.law_changed_texts.Goals as goal

-- the second image can be made of a valid one
can_be_made : (kernel i j : ImageOf Text) → IsValid text_words (reading_of Second kernel) i → KernelFirst kernel i → IsOtherOf kernel i j → CanBeMade kernel i j
can_be_made kernel i j old first other = record {
  old = old;
  new = other.valid;
  new_fileable = other.fileable;
  old_first = first;
  new_first = other.first;
  few = other.few;
  doits = other.doits;
  heads = other.heads;
}

pub returns-clause-makes : goal.returns-clause-makes
returns-clause-makes c = λ text kernel i j is read short other.
    let v = c.every_image_is_valid.ensures in
    let can : CanBeMade kernel i j = can_be_made kernel i j (v.valid Second text kernel i is read) (v.first Second text kernel i is read) other in
    let beginning = c.kernel_is_valid.ensures.beginning Second kernel is in
    let counted = c.counts_no_more_doits_than_bytes.ensures Second prelude_text text kernel i is beginning.no_doits read in
    c.makes_the_other_by_text.ensures prelude_text text kernel i j can beginning.root (omega (arith, counted, short, other.doits)) read

pub returns-clause-names : goal.returns-clause-names
returns-clause-names c = λ text kernel i j pieces end is read other chunks.
    let v = c.every_image_is_valid.ensures in
    c.chunks_name_differences.ensures kernel i j pieces end (can_be_made kernel i j (v.valid Second text kernel i is read) (v.first Second text kernel i is read) other) chunks

pub returns-clause-none : goal.returns-clause-none
returns-clause-none c = λ text kernel i j is read other.
    let v = c.every_image_is_valid.ensures in
    let can : CanBeMade kernel i j = can_be_made kernel i j (v.valid Second text kernel i is read) (v.first Second text kernel i is read) other in
    let none = c.edits_name_differences.ensures.none kernel i j can (c.kernel_is_valid.ensures.beginning Second kernel is).root in
    ((λ e. none.0 (empty_text i j e)), (λ n. text_empty i j (none.1 n)))
