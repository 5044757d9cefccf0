use Rattle.std.proofs.Common.{refl}
use Rattle.rb_base.specs.Names.{text_eq}
use Rattle.image_model.specs.Image.{ImageOf}
use Rattle.image_model.specs.Means.{of_instance, of_class_side}
use Rattle.run_model.specs.Renamings.{no_renaming}
use Rattle.run_model.specs.Values.{Name}
use Rattle.run_model.proofs.Finite.{and-true_right}
use Rattle.mapped_model.specs.RenamedRuns.{RunsAsRenamed}
use Rattle.mapped_model.specs.NamesOfImages.{names_in}
use Rattle.mapped_model.specs.ChangedImages.{IsChangedImage}
use Rattle.command_model.specs.Asked.{text_asked}
use Rattle.command_model.specs.Hierarchy.{is_class}
use Rattle.command_model.specs.Commands.{AddInstVar, RemoveInstVar, PushDownInstVar, AddClassSideVar, RemoveClassSideVar}
use Rattle.command_model.proofs.Held.{all-hold}
use Rattle.variable_laws.proofs.Alike.{shared_by}
use Rattle.variable_laws.proofs.Added.{added-changed}
use Rattle.variable_laws.proofs.Removed.{removed-changed}
use Rattle.variable_laws.proofs.PushedDown.{lowered-changed}
use Rattle.variable_laws.proofs.Free.{unnamed-below, up-changed}
use Rattle.variable_laws.proofs.Runs.{single, across, words-stay, same-throughout}
use Rattle.variable_laws.proofs.laws.law_own_variables.Goals as goal

pub returns : goal.returns
returns k =
    let runs : (i j : ImageOf Name) → IsChangedImage (shared_by (λ z. z)) i j → RunsAsRenamed i j no_renaming =
    λ i j changed.
    k.law_matched_by_maps.ensures.same_in_all_classes no_renaming (shared_by (λ z. z)) (names_in i) i j (λ c. refl) (λ t. refl) (single (λ z. z) (λ p q h. h) i) (across (λ z. z) (λ p q h. h) i) (k.law_matched_images.ensures.words i) (words-stay (λ z. z) (λ p q h. h) i)
    (same-throughout (λ z. z) (λ p q h. h) i) (k.law_matched_images.ensures.names i) (k.law_changed_images.ensures.resolved (shared_by (λ z. z)) i j changed) in
    record {
      added = λ writing i c x kernel none.
          let hold = all-hold text_asked i (AddInstVar c x) none in
          runs i _ (added-changed of_instance c x i kernel hold.user_class (unnamed-below i c x (and-true_right (is_class text_eq i c) _ hold.free_variable)));
      removed = λ writing i c x kernel none.
          let hold = all-hold text_asked i (RemoveInstVar c x) none in
          runs i _ (removed-changed of_instance c x i kernel hold.user_class (RemoveInstVar c x) refl (λ m. refl) hold.unused_variable);
      pushed_up = λ writing i c x kernel none. runs i _ (up-changed i c x kernel none);
      pushed_down = λ writing i c x kernel none.
          let hold = all-hold text_asked i (PushDownInstVar c x) none in
          runs i _ (lowered-changed c x i kernel hold.user_class hold.unused_variable);
      class_side_added = λ writing i c x kernel none.
          let hold = all-hold text_asked i (AddClassSideVar c x) none in
          runs i _ (added-changed of_class_side c x i kernel hold.user_class (unnamed-below i c x (and-true_right (is_class text_eq i c) _ hold.free_variable)));
      class_side_removed = λ writing i c x kernel none.
          let hold = all-hold text_asked i (RemoveClassSideVar c x) none in
          runs i _ (removed-changed of_class_side c x i kernel hold.user_class (RemoveClassSideVar c x) refl (λ m. refl) hold.unused_variable);
    }
