use Rattle.std.proofs.Common.{◌≡◌, refl, ap}
use Rattle.scope_model.specs.SpecialNames.{one_block_selectors, two_block_selectors, loop_selectors}
use Rattle.image_model.specs.Words.{text_words}
use Rattle.image_model.specs.Means.{of_instance, of_class_side, of_class}
use Rattle.run_model.specs.ObjectPrimitives.{value_classes}
use Rattle.resolved_model.proofs.LookupLemmas.{everywhere}
use Rattle.mapped_model.specs.NamesOfImages.{names_in}
use Rattle.mapped_model.specs.RenamedVariables.{with_instance_renamed, with_class_side_renamed}
use Rattle.rename_model.specs.VariableRenamed.{variable_renamed}
use Rattle.rename_model.specs.OneRenamed.{one_variable}
use Rattle.rename_laws.proofs.VariableImages.{image-changed}
use Rattle.rename_laws.proofs.SharedVariable.{shared_maps, exchanged-apart, shared-may}
use Rattle.rename_laws.proofs.ClassesBelow.{called-below}
use Rattle.rename_laws.proofs.OwnVariable.{own-may, may-be-renamed}
use Rattle.rename_laws.proofs.variables.law_renamed_variable_of.Goals as goal

pub returns : goal.returns
returns k = record {
  instance = λ writing i c x y sound user has free proper.
      k.law_renamed_variable.ensures.instance (one_variable i of_instance c x y) i (variable_renamed text_words writing i of_instance c x y) c x y (λ d. refl) (λ s. refl) sound.ordered
      (may-be-renamed i of_instance c x y refl sound user has free proper)
      (image-changed writing i of_instance c x y (with_instance_renamed i c x y) (λ e. refl) refl (own-may i of_instance c x y refl sound user has free proper));
  class_side = λ writing i c x y sound user has free proper.
      k.law_renamed_variable.ensures.class_side (one_variable i of_class_side c x y) i (variable_renamed text_words writing i of_class_side c x y) c x y (λ d. refl) (λ s. refl) sound.ordered
      (may-be-renamed i of_class_side c x y refl sound user has free proper)
      (image-changed writing i of_class_side c x y (with_class_side_renamed i c x y) (λ e. refl) refl (own-may i of_class_side c x y refl sound user has free proper));
  shared = λ writing i c x y unused proper.
      k.law_matched_by_maps.ensures.same_in_all_classes (one_variable i of_class c x y) (shared_maps c x y) (names_in i) i (variable_renamed text_words writing i of_class c x y) (λ d. refl) (λ s. refl)
      (record { class = λ d e p q h. h; selector = λ s t p q h. h; shared = λ l m p q h. exchanged-apart c x y l m h; instance = λ d n m p q h. h; class_side = λ d n m p q h. h })
      (record { instance = λ l m p q h. h; class_side = λ l m p q h. h }) (k.law_matched_images.ensures.words i)
      (record {
        nothing = refl;
        classes = everywhere (λ w. w ≡ w) (λ w. refl) value_classes;
        one_block = everywhere (λ w. w ≡ w) (λ w. refl) one_block_selectors;
        two_blocks = everywhere (λ w. w ≡ w) (λ w. refl) two_block_selectors;
        loops = everywhere (λ w. w ≡ w) (λ w. refl) loop_selectors;
      })
      (record { instance = λ d e n. refl; class_side = λ d e n. refl }) (k.law_matched_images.ensures.names i)
      (k.law_changed_images.ensures.resolved (shared_maps c x y) i (variable_renamed text_words writing i of_class c x y)
      (image-changed writing i of_class c x y (shared_maps c x y) (λ e. refl) refl (shared-may i c x y proper unused)));
  instance_names = λ i c x y k ordered. ap (λ n. (k.0, n)) (called-below i ordered c x y k);
  class_side_names = λ i c x y k ordered. ap (λ n. (k.0, n)) (called-below i ordered c x y k);
}
