use Rattle.std.proofs.Common.{◌≡◌, Option, Some, None, refl}
use Rattle.std.specs.Prelude.{true, false, ◌&&◌, ◌||◌}
use Rattle.std.specs.List.{list_any}
use Rattle.std.specs.Option.{option_map_or}
use Rattle.rb_base.specs.Names.{text_eq}
use Rattle.token_model.specs.declared.kind.Dialect.{Dialect}
use Rattle.st_kernel.specs.KernelText.{prelude_text}
use Rattle.image_model.specs.Image.{EntryOf, ImageOf}
use Rattle.image_model.specs.Words.{text_words}
use Rattle.image_model.specs.Valid.{IsValid}
use Rattle.st_kernel.specs.Selectors.{is_control, is_reserved_selector, is_reflective_selector}
use Rattle.run_model.specs.Values.{Name}
use Rattle.run_model.specs.Renamings.{no_renaming}
use Rattle.mapped_model.specs.NamesInUse.{NamesInUse}
use Rattle.mapped_model.specs.NamesOfImages.{names_in}
use Rattle.file_model.specs.Filing.{Text}
use Rattle.file_model.specs.Fileable.{reading_of}
use Rattle.file_model.specs.Reading.{IsKernelOf}
use Rattle.rename_model.specs.CommandWords.{has_own_meaning, text_command_words}
use Rattle.rename_model.specs.Conditions.{speaks_of, is_no_kernel_selector}
use Rattle.rename_model.specs.ClassRenamed.{canonical}
use Rattle.rename_laws.proofs.Unnamed.{neither_left, neither_right, denied}
use Rattle.command_model.specs.Asked.{text_asked}
use Rattle.command_model.specs.Commands.{CommandOf, RenameClass, PushUpClassVar, RenameSelector, AddParameter, RemoveParameter}
use Rattle.command_model.specs.Effects.{effect}
use Rattle.command_model.specs.Hierarchy.{superclass_name}
use Rattle.command_model.specs.Judged.{first_false}
use Rattle.command_model.specs.Renamings.{one_moved, renaming_of}
use Rattle.command_model.proofs.Held.{all-hold}
use Rattle.inverse_laws.specs.Inverse.{inverse, TakesBack}
use Rattle.inverse_laws.proofs.commands.law_commands_back.Goals as goal

-- a selector of which a command may make use is none of control sends
control-apart : (i : ImageOf Name) (s : Name) → is_no_kernel_selector text_eq text_command_words i s ≡ true → is_control s ≡ false
control-apart i s h =
    let own : has_own_meaning s ≡ false = neither_right (list_any (λ (m : EntryOf Name). m.kernel && speaks_of text_eq s m) i.methods) (has_own_meaning s) (denied _ h) in
    neither_left (is_control s) (is_reserved_selector s || (is_reflective_selector s || _)) own

-- a class variable that comes to a class that there may be
moved-back : (u : NamesInUse) (c x : Name) (o : Option Name) → TakesBack u (option_map_or (one_moved c x) o no_renaming) (inverse (option_map_or (one_moved c x) o no_renaming))
moved-back u c x None = record { classes = λ n t. refl; selectors = λ n t. refl }
moved-back u c x (Some d) = record { classes = λ n t. refl; selectors = λ n t. refl }

pub returns : goal.returns
returns k = record {
  takes_back = back;
  matched = λ dialect kernel image command is valid moves none.
      k.law_matched_back.ensures.matched image (effect text_asked canonical command image) (renaming_of image command) (inverse (renaming_of image command)) (back dialect kernel image command is valid none)
      (k.law_matched_commands.ensures dialect kernel image command is valid moves none);
  runs = λ dialect kernel image command is valid keeps none.
      k.law_matched_back.ensures.runs image (effect text_asked canonical command image) (renaming_of image command) (inverse (renaming_of image command)) (back dialect kernel image command is valid none)
      (k.law_commands.ensures dialect kernel image command is valid keeps none);
}
  where
    back : (dialect : Dialect) (kernel image : ImageOf Text) (command : CommandOf Text) → IsKernelOf dialect prelude_text kernel → IsValid text_words (reading_of dialect kernel) image → first_false text_asked image command ≡ None →
        TakesBack (names_in image) (renaming_of image command) (inverse (renaming_of image command))
    back dialect kernel image (RenameClass c d) is valid none =
        let hold = all-hold text_asked image (RenameClass c d) none in
        k.law_renamed_back.ensures.class_back image c d (k.every_image_may_be_renamed.ensures.behind_kernel dialect kernel image is valid) hold.good_name hold.unused_name
    back dialect kernel image (RenameSelector s t) is valid none =
        let hold = all-hold text_asked image (RenameSelector s t) none in
        k.law_renamed_back.ensures.selector_back image s t (control-apart image t hold.new_not_kernel) hold.fresh_selector
    back dialect kernel image (AddParameter s t x passed) is valid none =
        let hold = all-hold text_asked image (AddParameter s t x passed) none in
        k.law_renamed_back.ensures.selector_back image s t (control-apart image t hold.new_not_kernel) hold.fresh_selector
    back dialect kernel image (RemoveParameter s n t) is valid none =
        let hold = all-hold text_asked image (RemoveParameter s n t) none in
        k.law_renamed_back.ensures.selector_back image s t (control-apart image t hold.new_not_kernel) hold.fresh_selector
    back dialect kernel image (PushUpClassVar c x) is valid none = moved-back (names_in image) c x (superclass_name text_eq image c)
    back dialect kernel image command is valid none = record { classes = λ n t. refl; selectors = λ n t. refl }
