use Rattle.std.proofs.Common.{◌≡◌, refl, sym, ◌∙◌, subst}
use Rattle.std.proofs.lemmas.Bool.{false≢true}
use Rattle.std.specs.Prelude.{true, false}
use Rattle.rb_base.specs.Names.{text_eq}
use Rattle.image_model.specs.Image.{ImageOf}
use Rattle.image_model.specs.Words.{text_words}
use Rattle.image_model.specs.Means.{of_instance, of_class_side, of_class}
use Rattle.st_kernel.specs.Selectors.{is_control}
use Rattle.run_model.specs.Values.{Name}
use Rattle.run_model.proofs.Finite.{by_cases}
use Rattle.run_model.proofs.RenamingLemmas.{text-same}
use Rattle.mapped_model.specs.NamesInUse.{IsAmong}
use Rattle.mapped_model.specs.NamesOfImages.{names_in}
use Rattle.rename_model.specs.CommandWords.{is_good_class_name}
use Rattle.rename_model.specs.Conditions.{is_name_unused, is_selector_fresh}
use Rattle.rename_model.specs.ClassRenamed.{class_renamed}
use Rattle.rename_model.specs.SelectorRenamed.{selector_renamed}
use Rattle.rename_model.specs.VariableRenamed.{variable_renamed}
use Rattle.rename_model.specs.OneRenamed.{one_selector, one_variable}
use Rattle.rename_laws.specs.BehindKernel.{IsBehindKernel}
use Rattle.rename_laws.proofs.Readiness.{is_new}
use Rattle.rename_laws.proofs.NamesApart.{not-in-use}
use Rattle.rename_laws.proofs.RenamedSelector.{lacks-new}
use Rattle.command_model.specs.Renamings.{one_class}
use Rattle.inverse_laws.specs.Inverse.{inverse, TakesBack}
use Rattle.inverse_laws.proofs.OneBack.{text-back, apart}
use Rattle.inverse_laws.proofs.renamed.law_renamed_back.Goals as goal

class-back : (i : ImageOf Name) (c d : Name) → IsBehindKernel i → is_good_class_name d ≡ true → is_name_unused text_eq i d ≡ true → TakesBack (names_in i) (one_class c d) (inverse (one_class c d))
class-back i c d behind good unused = record { classes = λ n t. text-back c d n (apart d n (not-in-use i c d (is_new i c d behind good unused) n t)); selectors = λ s t. refl }

-- a selector that is not in use is none of those in use
not-selected : (i : ImageOf Name) (t : Name) → is_control t ≡ false → is_selector_fresh text_eq i t ≡ true → (s : Name) → IsAmong (names_in i).selectors s → text_eq t s ≡ false
not-selected i t control fresh s q =
    by_cases (text_eq t s) (λ e. absurd (false≢true (sym (lacks-new i t control fresh) ∙ subst (IsAmong (names_in i).selectors) (sym (text-same t s e)) q))) (λ e. e)

selector-back : (i : ImageOf Name) (s t : Name) → is_control t ≡ false → is_selector_fresh text_eq i t ≡ true → TakesBack (names_in i) (one_selector s t) (inverse (one_selector s t))
selector-back i s t control fresh = record { classes = λ n u. refl; selectors = λ n u. text-back s t n (apart t n (not-selected i t control fresh n u)) }

pub returns : goal.returns
returns k = record {
  class_back = class-back;
  selector_back = selector-back;
  class = λ writing i c d behind user good unused.
      k.law_matched_back.ensures.runs i (class_renamed text_words writing i c d) (one_class c d) (inverse (one_class c d)) (class-back i c d behind good unused)
      (k.law_renamed_class.ensures.matched writing i c d behind user good unused);
  selector = λ writing i s t old new fresh.
      k.law_matched_back.ensures.runs i (selector_renamed text_eq writing i s t) (one_selector s t) (inverse (one_selector s t)) (selector-back i s t new fresh)
      (k.law_renamed_selector.ensures.matched writing i s t old new fresh);
  instance = λ writing i c x y sound user has free proper.
      k.law_matched_back.ensures.runs i (variable_renamed text_words writing i of_instance c x y) (one_variable i of_instance c x y) (inverse (one_variable i of_instance c x y))
      (record { classes = λ n t. refl; selectors = λ n t. refl }) (k.law_renamed_variable_of.ensures.instance writing i c x y sound user has free proper);
  class_side = λ writing i c x y sound user has free proper.
      k.law_matched_back.ensures.runs i (variable_renamed text_words writing i of_class_side c x y) (one_variable i of_class_side c x y) (inverse (one_variable i of_class_side c x y))
      (record { classes = λ n t. refl; selectors = λ n t. refl }) (k.law_renamed_variable_of.ensures.class_side writing i c x y sound user has free proper);
  shared = λ writing i c x y unused proper.
      k.law_matched_back.ensures.runs i (variable_renamed text_words writing i of_class c x y) (one_variable i of_class c x y) (inverse (one_variable i of_class c x y))
      (record { classes = λ n t. refl; selectors = λ n t. refl }) (k.law_renamed_variable_of.ensures.shared writing i c x y unused proper);
}
