use Rattle.std.proofs.Common.{◌≡◌, refl}
use Rattle.std.specs.Prelude.{true, false}
use Rattle.rb_base.specs.Names.{text_eq}
use Rattle.image_model.specs.Image.{ImageOf}
use Rattle.st_kernel.specs.Selectors.{is_control}
use Rattle.run_model.specs.Values.{Name}
use Rattle.mapped_model.specs.RenamedRuns.{RunsAsRenamed}
use Rattle.mapped_model.specs.NamesOfImages.{names_in}
use Rattle.rename_model.specs.Conditions.{is_selector_fresh}
use Rattle.rename_model.specs.ClassRenamed.{WritingOf}
use Rattle.rename_model.specs.SelectorRenamed.{selector_renamed}
use Rattle.rename_model.specs.OneRenamed.{one_selector}
use Rattle.rename_laws.proofs.RenamedSelector.{maps, changed, single, words-stay, as-renaming, control-apart}
use Rattle.rename_laws.proofs.selectors.law_renamed_selector.Goals as goal

pub returns : goal.returns
returns k =
    let matched : (writing : WritingOf Name) (i : ImageOf Name) (s t : Name) → is_control s ≡ false → is_control t ≡ false → is_selector_fresh text_eq i t ≡ true → RunsAsRenamed i (selector_renamed text_eq writing i s t) (one_selector s t) =
    λ writing i s t old new fresh.
    k.law_matched_by_maps.ensures.same_in_all_classes (one_selector s t) (maps writing i s t) (names_in i) i (selector_renamed text_eq writing i s t) (λ c. refl) (as-renaming writing i s t)
    (single writing i s t new fresh) (record { instance = λ x y p q e. e; class_side = λ x y p q e. e }) (k.law_matched_images.ensures.words i) (words-stay writing i s t old)
    (record { instance = λ c d n. refl; class_side = λ c d n. refl }) (k.law_matched_images.ensures.names i)
    (k.law_changed_images.ensures.resolved (maps writing i s t) i (selector_renamed text_eq writing i s t) (changed writing i s t)) in
    record { matched = matched; by_command = λ writing i old new p q fresh. matched writing i old new (control-apart i old p) (control-apart i new q) fresh }
