use Rattle.std.proofs.Common.{◌≡◌, ◌∷◌, [], Some, None, refl, sym, ap, subst}
use Rattle.std.specs.Prelude.{true, false, ◌&&◌, Bool, cond, if◌then◌else◌, option_map, unwrap_or}
use Rattle.run_model.specs.Store.{same_pair}
use Rattle.std.specs.List.{AllByRecursion, list_any}
use Rattle.std.specs.Option.{option_map_or}
use Rattle.rb_base.specs.Names.{text_eq}
use Rattle.image_model.specs.Image.{EntryOf, DoItOf, ImageOf}
use Rattle.image_model.specs.Chain.{chain}
use Rattle.image_model.specs.Means.{of_class}
use Rattle.image_model.proofs.Lists.{all-implies}
use Rattle.run_model.specs.Renamings.{OfClass, Renaming, no_renaming, class_image, selector_image}
use Rattle.run_model.specs.Values.{Name}
use Rattle.run_model.proofs.Finite.{and-true_right}
use Rattle.mapped_model.specs.RenamedRuns.{RunsAsRenamed}
use Rattle.mapped_model.specs.NamesOfImages.{names_in}
use Rattle.mapped_model.specs.ChangedImages.{IsChangedImage}
use Rattle.rename_model.specs.NamesThere.{is_named_in, is_named_in_method, is_named_by_class}
use Rattle.rename_model.specs.Conditions.{is_name_unused, is_method_below, defines}
use Rattle.command_model.specs.Asked.{text_asked}
use Rattle.command_model.specs.Hierarchy.{is_class}
use Rattle.command_model.specs.Commands.{AddClassVar, RemoveClassVar, PushUpClassVar, PushDownClassVar}
use Rattle.command_model.specs.VariableConditions.{is_free_beside, may_come_for}
use Rattle.command_model.specs.VariableEffects.{shared_moved, shared_pushed_up}
use Rattle.command_model.specs.Renamings.{one_moved}
use Rattle.command_model.proofs.Held.{all-hold}
use Rattle.rename_laws.proofs.Unnamed.{neither_left, neither_right, denied, each-fails}
use Rattle.variable_laws.proofs.Alike.{shared_by}
use Rattle.variable_laws.proofs.Conditions.{user-parent}
use Rattle.variable_laws.proofs.Added.{added-changed}
use Rattle.variable_laws.proofs.Removed.{removed-changed}
use Rattle.variable_laws.proofs.Free.{unnamed-beside}
use Rattle.variable_laws.proofs.Swapped.{swapped-apart}
use Rattle.variable_laws.proofs.SharedMoved.{and-no, maps}
use Rattle.variable_laws.proofs.SharedUp.{two-classes, shared-up}
use Rattle.variable_laws.proofs.SharedDown
use Rattle.variable_laws.proofs.Runs.{single, across, words-stay, same-throughout}
use Rattle.variable_laws.proofs.laws.law_class_variables.Goals as goal

-- no method has a name that nothing has
unnamed-anywhere : (i : ImageOf Name) (c x : Name) → is_name_unused text_eq i x ≡ true → AllByRecursion (λ (m : EntryOf Name). (is_method_below text_eq i.classes c m && is_named_in_method text_eq x m) ≡ false) i.methods
unnamed-anywhere i c x unused =
    all-implies (λ (m : EntryOf Name). is_named_in_method text_eq x m ≡ false) _ (λ m h. and-no (is_method_below text_eq i.classes c m) (is_named_in_method text_eq x m) h) i.methods
    (each-fails (is_named_in_method text_eq x) i.methods
    (neither_left (list_any (is_named_in_method text_eq x) i.methods) (list_any (λ (d : DoItOf Name). is_named_in text_eq x d.body) i.doits) (neither_right (list_any (is_named_by_class text_eq x) i.classes) _ (denied _ unused))))

-- one entry, by whether it is that of the name
one-entry : (b : Bool) (a z k : OfClass) → unwrap_or (option_map (λ (e : OfClass × OfClass). e.1) (cond b (Some (a, z)) None)) k ≡ (if b then z else k)
one-entry true a z k = refl
one-entry false a z k = refl

pub returns : goal.returns
returns k =
    let runs : (r : Renaming) (s : OfClass → OfClass) → ((p q : OfClass) → s p ≡ s q → p ≡ q) → ((c : Name) → c ≡ class_image r c) → ((t : Name) → t ≡ selector_image r t) → (i j : ImageOf Name) → IsChangedImage (shared_by s) i j → RunsAsRenamed i j r =
    λ r s apart classes selectors i j changed.
    k.law_matched_by_maps.ensures.same_in_all_classes r (shared_by s) (names_in i) i j classes selectors (single s apart i) (across s apart i) (k.law_matched_images.ensures.words i) (words-stay s apart i)
    (same-throughout s apart i) (k.law_matched_images.ensures.names i) (k.law_changed_images.ensures.resolved (shared_by s) i j changed) in
    record {
      added = λ writing i c x kernel none.
          let hold = all-hold text_asked i (AddClassVar c x) none in
          runs no_renaming (λ z. z) (λ p q h. h) (λ d. refl) (λ t. refl) i _ (added-changed of_class c x i kernel hold.user_class (unnamed-anywhere i c x hold.unused_name));
      removed = λ writing i c x kernel none.
          let hold = all-hold text_asked i (RemoveClassVar c x) none in
          runs no_renaming (λ z. z) (λ p q h. h) (λ d. refl) (λ t. refl) i _ (removed-changed of_class c x i kernel hold.user_class (RemoveClassVar c x) refl (λ m. refl) hold.unused_variable);
      pushed_up = λ writing i c x kernel none.
          let hold = all-hold text_asked i (PushUpClassVar c x) none in
          let parent = user-parent i c hold.user_parent in
          let p : Name = parent.0 in
          let may : may_come_for text_eq i (PushUpClassVar c x) p x ≡ true = hold.free_variable p parent.1 in
          let free : is_free_beside text_eq i (c ∷ []) p x ≡ true = and-true_right (is_class text_eq i p) _ may in
          let top : list_any (defines text_eq x) (chain text_eq i.classes (Some p)) ≡ false = neither_left (list_any (defines text_eq x) (chain text_eq i.classes (Some p))) _ (denied _ free) in
          subst (RunsAsRenamed i (shared_pushed_up text_eq c x i)) (sym (ap (λ o. option_map_or (λ q. one_moved c x q) o no_renaming) parent.1))
          (subst (λ j. RunsAsRenamed i j (one_moved c x p)) (sym (ap (λ o. option_map_or (λ q. shared_moved text_eq c x q i) o i) parent.1))
          (runs (one_moved c x p) (maps c p x (two-classes c p x i kernel hold.user_class parent.2 parent.1 hold.has_variable top) i) (swapped-apart (c, x) (p, x)) (λ d. refl) (λ t. refl) i _
          (shared-up c p x i kernel hold.user_class parent.2 parent.1 hold.has_variable top (unnamed-beside i (c ∷ []) p x free))));
      pushed_down = λ writing i c x d kernel none.
          let hold = all-hold text_asked i (PushDownClassVar c x d) none in
          runs (one_moved c x d) (maps c d x (SharedDown.two-classes c d x i kernel hold.user_class hold.child hold.lacks_variable hold.unused_variable) i) (swapped-apart (c, x) (d, x)) (λ e. refl) (λ t. refl) i _
          (SharedDown.shared-down c d x i kernel hold.user_class hold.child hold.lacks_variable hold.unused_variable);
      moved_names = λ c d x l. one-entry (same_pair l (c, x)) (c, x) (d, x) l;
    }
