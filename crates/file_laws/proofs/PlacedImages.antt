-- Images whose classes and methods are put in again at the places that are stated for them.
use Rattle.std.proofs.Common.{◌≡◌, Bool, true, List, [], map, filter, None, sym, ap, subst, ◌∙◌}
use Rattle.std.specs.List.{AllByRecursion}
use Rattle.std.specs.List.Sorted.{IsPermutation}
use Rattle.std.proofs.lemmas.List.Sorted.{IsPermutation-sym, IsPermutation-trans}
use Rattle.image_model.specs.Image.{ClassOf, EntryOf, ImageOf}
use Rattle.image_model.specs.Valid.{HasNoRepeat, class_names, signature, SuperclassesStandBefore}
use Rattle.file_model.specs.Hierarchy.{settled}
use Rattle.file_model.specs.Places.{PlacesOf, no_places, class_place, method_place, put_again_behind, placed}
use Rattle.file_laws.specs.Fronts.{class_of_kernel, method_of_kernel, IsKernelInFront, HasKernelInFront}
use Rattle.file_laws.specs.Settling.{IsTakenInTurn}
use Rattle.file_laws.proofs.Settled.{settled_stays}
use Rattle.file_laws.proofs.SettledAgain.{All-reordered, settled_in_order}
use Rattle.file_laws.proofs.PutAgain.{put_again_behind_same, put_again_behind_kernel}
use Rattle.file_laws.proofs.Reordered.{no_repeat_map_reordered}
use Rattle.file_laws.proofs.KernelInFront.{front_put_again, front_stays, front_settled, front_settled_same, All-settled}

-- over names that a test tells apart
module _ {N : Type 0} (is_same : N → N → Bool) (reflexive : (n : N) → is_same n n ≡ true) (equal : (s t : N) → is_same s t ≡ true → s ≡ t) where
  -- classes of which some order is in order are put in order, and none is lost
  pub placed_in_order : (places : PlacesOf N) (i : ImageOf N) (ds : List (ClassOf N)) → IsPermutation i.classes ds → SuperclassesStandBefore ds
      → SuperclassesStandBefore (placed is_same places i).classes × IsPermutation i.classes (placed is_same places i).classes
  placed_in_order places i ds same before =
      let again = put_again_behind class_of_kernel (class_place is_same places.classes) i.classes in
      let moved = put_again_behind_same class_of_kernel (class_place is_same places.classes) i.classes in
      let r = settled_in_order is_same reflexive equal again ds (IsPermutation-trans again i.classes ds (IsPermutation-sym i.classes again moved) same) before in
      (r.0, IsPermutation-trans i.classes again (settled is_same again) moved r.1)

  -- what is of the kernel stands in front
  pub placed_front : (places : PlacesOf N) (i : ImageOf N) → IsTakenInTurn is_same [] (filter class_of_kernel i.classes) → HasKernelInFront (placed is_same places i)
  placed_front places i turn = record {
    classes = front_settled is_same reflexive equal class_of_kernel (put_again_behind class_of_kernel (class_place is_same places.classes) i.classes) (front_put_again class_of_kernel (class_place is_same places.classes) i.classes)
        (subst (IsTakenInTurn is_same []) (sym (put_again_behind_kernel class_of_kernel (class_place is_same places.classes) i.classes)) turn);
    methods = front_put_again method_of_kernel (method_place is_same places.methods) i.methods;
  }

  -- the classes of the kernel are the same
  pub placed_kernel_same : (places : PlacesOf N) (i : ImageOf N) → IsTakenInTurn is_same [] (filter class_of_kernel i.classes) → filter class_of_kernel (placed is_same places i).classes ≡ filter class_of_kernel i.classes
  placed_kernel_same places i turn =
      let kept = put_again_behind_kernel class_of_kernel (class_place is_same places.classes) i.classes in
      front_settled_same is_same reflexive equal class_of_kernel (put_again_behind class_of_kernel (class_place is_same places.classes) i.classes) (front_put_again class_of_kernel (class_place is_same places.classes) i.classes)
      (subst (IsTakenInTurn is_same []) (sym kept) turn)
      ∙ kept

  -- no two classes have one name, and no two methods one class, side and selector, where it was so
  pub placed_names_once : (places : PlacesOf N) (i : ImageOf N) (ds : List (ClassOf N)) → IsPermutation i.classes ds → SuperclassesStandBefore ds → HasNoRepeat (class_names i.classes) → HasNoRepeat (class_names (placed is_same places i).classes)
  placed_names_once places i ds same before = no_repeat_map_reordered (λ (c : ClassOf N). c.name) i.classes (placed is_same places i).classes (placed_in_order places i ds same before).1

  pub placed_methods_once : (places : PlacesOf N) (i : ImageOf N) → HasNoRepeat (map signature i.methods) → HasNoRepeat (map signature (placed is_same places i).methods)
  placed_methods_once places i =
      no_repeat_map_reordered signature i.methods (placed is_same places i).methods (put_again_behind_same method_of_kernel (method_place is_same places.methods) i.methods)

  -- where no class and no method has a place, an image is placed as where nothing was stated
  pub placed_without : (places : PlacesOf N) (i : ImageOf N) → places.classes ≡ [] → places.methods ≡ [] → placed is_same places i ≡ placed is_same no_places i
  placed_without places i classes methods = (λ k. placed is_same (record { classes = classes k; methods = methods k; next = places.next }) i)

  -- what holds of each class and of each method holds of each that is placed
  pub placed_all_classes : (P : ClassOf N → Type 0) (places : PlacesOf N) (i : ImageOf N) → AllByRecursion P i.classes → AllByRecursion P (placed is_same places i).classes
  placed_all_classes P places i all =
      let again = put_again_behind class_of_kernel (class_place is_same places.classes) i.classes in
      All-settled is_same reflexive equal P again (All-reordered P i.classes again (put_again_behind_same class_of_kernel (class_place is_same places.classes) i.classes) all)

  pub placed_all_methods : (P : EntryOf N → Type 0) (places : PlacesOf N) (i : ImageOf N) → AllByRecursion P i.methods → AllByRecursion P (placed is_same places i).methods
  placed_all_methods P places i = All-reordered P i.methods (placed is_same places i).methods (put_again_behind_same method_of_kernel (method_place is_same places.methods) i.methods)

  -- where no place is stated, an image stays whose classes are in order and in which what is of the kernel stands in front
  pub placed_stays : (i : ImageOf N) → SuperclassesStandBefore i.classes → IsKernelInFront class_of_kernel i.classes → IsKernelInFront method_of_kernel i.methods → placed is_same no_places i ≡ i
  placed_stays i before classes methods = (λ k. record i { classes = in_order k; methods = front_stays method_of_kernel i.methods methods k })
    where
      in_order : settled is_same (put_again_behind class_of_kernel (λ c. None) i.classes) ≡ i.classes
      in_order = ap (settled is_same) (front_stays class_of_kernel i.classes classes) ∙ settled_stays is_same reflexive equal i.classes before
