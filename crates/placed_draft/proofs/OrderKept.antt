-- The names of classes in their order, once the classes are changed.
use Rattle.std.proofs.Common.{◌≡◌, ℕ, true, false, not, List, [], ◌∷◌, ◌++◌, filter, Option, None, Some, nat_eq, sym, subst, ◌∙◌}
use Rattle.std.specs.Prelude.{if◌then◌else◌}
use Rattle.std.specs.List.{AllByRecursion}
use Rattle.std.specs.List.Sorted.{IsPermutation}
use Rattle.std.proofs.lemmas.List.Sorted.{IsPermutation-refl, IsPermutation-sym, IsPermutation-trans, IsPermutation-map, IsPermutation-append_left}
use Rattle.image_model.specs.Image.{ClassOf}
use Rattle.image_model.specs.Valid.{HasNoRepeat, class_names}
use Rattle.file_model.specs.Hierarchy.{has_class}
use Rattle.file_model.specs.Applied.{changed_class}
use Rattle.file_laws.specs.Orders.{AreSameClasses}
use Rattle.file_laws.proofs.Defined.{has_changed}
use Rattle.file_laws.proofs.OtherOrder.{filter_moved, same_back, same_itself}
use Rattle.file_laws.proofs.OtherOrderLooks.{has_same}
use Rattle.image_draft.specs.Arranged.{in_order}
use Rattle.placed_draft.specs.Placed.{NamesEach, IsOrder, ordered}
use Rattle.placed_draft.proofs.Numbers.{nat_itself, nat_equal}
use Rattle.placed_draft.proofs.Ordered.{in_order_moved, in_order_itself, names_there, in_order_changed, in_order_new, names_new, in_order_without, names_without}

-- a fact of each item follows from another
all_weaker : {X : Type 0} (P Q : X → Type 0) (xs : List X) → ((x : X) → P x → Q x) → AllByRecursion P xs → AllByRecursion Q xs
all_weaker P Q [] f all = tt
all_weaker P Q (x ∷ xs) f all = (f x all.0, all_weaker P Q xs f all.1)

-- in the order of names stand the same classes
pub ordered_same : (names : List ℕ) (cs : List (ClassOf ℕ)) → HasNoRepeat (class_names cs) → NamesEach names cs → AreSameClasses (in_order names cs) cs
ordered_same names cs once e =
    same_back nat_eq nat_itself nat_equal cs (in_order names cs) (record { permutation = IsPermutation-sym (in_order names cs) cs e.permutation; distinct = once })

-- or in the order that is noted, if one is
pub noted_same : (o : Option (List ℕ)) (cs : List (ClassOf ℕ)) → HasNoRepeat (class_names cs) → IsOrder o cs → AreSameClasses (ordered o cs) cs
noted_same None cs once e = same_itself nat_eq nat_itself nat_equal cs once
noted_same (Some names) cs once e = ordered_same names cs once e

-- the names of the classes themselves
pub each_itself : (cs : List (ClassOf ℕ)) → HasNoRepeat (class_names cs) → NamesEach (class_names cs) cs
each_itself cs once = record {
  permutation = subst (λ (ds : List (ClassOf ℕ)). IsPermutation ds cs) (sym (in_order_itself cs once)) (IsPermutation-refl cs);
  there = names_there cs once;
}

-- of the same classes in another order
pub each_moved : (names : List ℕ) (cs ds : List (ClassOf ℕ)) → AreSameClasses cs ds → NamesEach names cs → NamesEach names ds
each_moved names cs ds m e = record {
  permutation = subst (λ (es : List (ClassOf ℕ)). IsPermutation es ds) (in_order_moved names cs ds m) (IsPermutation-trans (in_order names cs) cs ds e.permutation m.permutation);
  there = all_weaker (λ n. has_class nat_eq cs n ≡ true) (λ n. has_class nat_eq ds n ≡ true) names (λ n h. sym (has_same nat_eq nat_itself nat_equal cs ds m n) ∙ h) e.there;
}

-- where a class is changed and keeps its name
pub each_changed : (n : ℕ) (f : ClassOf ℕ → ClassOf ℕ) → ((c : ClassOf ℕ) → (f c).name ≡ c.name) → (names : List ℕ) (cs : List (ClassOf ℕ)) → NamesEach names cs → NamesEach names (changed_class nat_eq n f cs)
each_changed n f keeps names cs e = record {
  permutation = subst (λ (es : List (ClassOf ℕ)). IsPermutation es (changed_class nat_eq n f cs)) (sym (in_order_changed n f keeps names cs)) (IsPermutation-map (λ (c : ClassOf ℕ). if nat_eq n c.name then f c else c) (in_order names cs) cs e.permutation);
  there = all_weaker (λ m. has_class nat_eq cs m ≡ true) (λ m. has_class nat_eq (changed_class nat_eq n f cs) m ≡ true) names (λ m h. has_changed nat_eq nat_itself nat_equal n m f keeps cs ∙ h) e.there;
}

-- where a class of another name comes last
pub each_new : (c : ClassOf ℕ) (names : List ℕ) (cs : List (ClassOf ℕ)) → has_class nat_eq cs c.name ≡ false → NamesEach names cs → NamesEach (names ++ c.name ∷ []) (cs ++ c ∷ [])
each_new c names cs fresh e = record {
  permutation = subst (λ (es : List (ClassOf ℕ)). IsPermutation es (cs ++ c ∷ [])) (sym (in_order_new c names cs e.there fresh)) (IsPermutation-append_left (c ∷ []) (in_order names cs) cs e.permutation);
  there = names_new c names cs e.there fresh;
}

-- where the class of a name is gone
pub each_without : (n : ℕ) (names : List ℕ) (cs : List (ClassOf ℕ)) → NamesEach names cs → NamesEach (filter (λ m. not (nat_eq n m)) names) (filter (λ (c : ClassOf ℕ). not (nat_eq n c.name)) cs)
each_without n names cs e = record {
  permutation =
      subst (λ (es : List (ClassOf ℕ)). IsPermutation es (filter (λ (c : ClassOf ℕ). not (nat_eq n c.name)) cs)) (sym (in_order_without n names cs))
      (filter_moved (λ (c : ClassOf ℕ). not (nat_eq n c.name)) (in_order names cs) cs e.permutation);
  there = names_without n names cs e.there;
}
