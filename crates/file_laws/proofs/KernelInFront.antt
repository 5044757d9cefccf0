-- Lists in which the items of the kernel stand before all others.
use Rattle.std.proofs.Common.{◌≡◌, ℕ, zero, suc, Bool, true, false, not, cond, List, [], ◌∷◌, ◌++◌, length, map, filter, find, Option, Some, None, refl, sym, ap, subst, ◌∙◌, append_assoc, length-append}
use Rattle.std.specs.List.{AllByRecursion}
use Rattle.std.specs.Option.{option_map_or}
use Rattle.std.proofs.lemmas.List.{append-nil, map-append}
use Rattle.std.proofs.lemmas.List.Elements.{filter-append}
use Rattle.image_model.specs.Image.{ClassOf}
use Rattle.file_model.specs.Hierarchy.{can_follow, without_first, settle_behind, settled}
use Rattle.file_model.specs.Places.{put_again, put_again_behind}
use Rattle.file_laws.specs.Fronts.{IsKernelInFront}
use Rattle.file_laws.specs.Settling.{IsTakenInTurn}
use Rattle.file_laws.proofs.Settled.{in_turn}
use Rattle.file_laws.proofs.Moves.{All-append}
use Rattle.file_laws.proofs.SettledAgain.{All-reordered, split, taken_out}
use Rattle.file_laws.proofs.PutAgain.{filter_all, filter_none, filter_pass, put_again_of_user, put_again_behind_stays}

-- a fact of the items that another test keeps
pub filter_keeps : {X : Type 0} (P : X → Type 0) (p : X → Bool) (xs : List X) → AllByRecursion P xs → AllByRecursion P (filter p xs)
filter_keeps P p [] all = tt
filter_keeps {X} P p (x ∷ xs) all = by (p x) (filter_keeps P p xs all.1)
  where
    by : (b : Bool) → AllByRecursion P (filter p xs) → AllByRecursion P (cond b (x ∷ filter p xs) (filter p xs))
    by true rest = (all.0, rest)
    by false rest = rest

module _ {X : Type 0} (is_kernel : X → Bool) where
  -- those in front are those of the kernel
  pub front_is : (xs : List X) (f : IsKernelInFront is_kernel xs) → filter is_kernel xs ≡ f.front
  front_is xs f =
      ap (filter is_kernel) f.whole
      ∙ filter-append is_kernel f.front f.back
      ∙ (λ i. filter_all is_kernel f.front f.of_kernel i ++ filter_none is_kernel f.back f.of_user i)
      ∙ append-nil f.front

  -- where all are of the kernel
  pub front_all : (xs : List X) → AllByRecursion (λ x. is_kernel x ≡ true) xs → IsKernelInFront is_kernel xs
  front_all xs all = record { front = xs; back = []; whole = sym (append-nil xs); of_kernel = all; of_user = tt }

  -- one more item that is none of the kernel
  pub front_end : (xs : List X) (y : X) → is_kernel y ≡ false → IsKernelInFront is_kernel xs → IsKernelInFront is_kernel (xs ++ y ∷ [])
  front_end xs y user f = record {
    front = f.front;
    back = f.back ++ y ∷ [];
    whole = ap (λ (ys : List X). ys ++ y ∷ []) f.whole ∙ append_assoc f.front f.back (y ∷ []);
    of_kernel = f.of_kernel;
    of_user = All-append (λ x. is_kernel x ≡ false) f.back (y ∷ []) f.of_user (user, tt);
  }

  -- some items are left out
  pub front_filter : (p : X → Bool) (xs : List X) → IsKernelInFront is_kernel xs → IsKernelInFront is_kernel (filter p xs)
  front_filter p xs f = record {
    front = filter p f.front;
    back = filter p f.back;
    whole = ap (filter p) f.whole ∙ filter-append p f.front f.back;
    of_kernel = filter_keeps (λ x. is_kernel x ≡ true) p f.front f.of_kernel;
    of_user = filter_keeps (λ x. is_kernel x ≡ false) p f.back f.of_user;
  }

  changed : (b : Bool) (f : X → X) → ((x : X) → is_kernel (f x) ≡ is_kernel x) → (xs : List X) → AllByRecursion (λ x. is_kernel x ≡ b) xs → AllByRecursion (λ x. is_kernel x ≡ b) (map f xs)
  changed b f keeps [] all = tt
  changed b f keeps (x ∷ xs) all = (keeps x ∙ all.0, changed b f keeps xs all.1)

  -- items are changed, and of the kernel as before
  pub front_map : (f : X → X) → ((x : X) → is_kernel (f x) ≡ is_kernel x) → (xs : List X) → IsKernelInFront is_kernel xs → IsKernelInFront is_kernel (map f xs)
  front_map f keeps xs k = record {
    front = map f k.front;
    back = map f k.back;
    whole = ap (map f) k.whole ∙ map-append f k.front k.back;
    of_kernel = changed true f keeps k.front k.of_kernel;
    of_user = changed false f keeps k.back k.of_user;
  }

  -- items are put in again behind those of the kernel
  pub front_put_again : (place : X → Option ℕ) (xs : List X) → IsKernelInFront is_kernel (put_again_behind is_kernel place xs)
  front_put_again place xs = record {
    front = filter is_kernel xs;
    back = put_again place (filter (λ x. not (is_kernel x)) xs);
    whole = refl;
    of_kernel = filter_pass is_kernel xs;
    of_user = put_again_of_user is_kernel place xs;
  }

  -- where nothing has a place all stay
  pub front_stays : (xs : List X) → IsKernelInFront is_kernel xs → put_again_behind is_kernel (λ x. None) xs ≡ xs
  front_stays xs f = put_again_behind_stays is_kernel xs f.front f.back f.whole f.of_kernel f.of_user

-- over names that a test tells apart
module _ {N : Type 0} (is_same : N → N → Bool) (reflexive : (n : N) → is_same n n ≡ true) (equal : (s t : N) → is_same s t ≡ true → s ≡ t) where
  -- classes that are taken go behind those that were taken before
  settle_tail : (P : ClassOf N → Type 0) (k : ℕ) (taken left : List (ClassOf N)) → AllByRecursion P left → (back : List (ClassOf N)) × (settle_behind is_same k taken left ≡ taken ++ back) × AllByRecursion P back
  settle_tail P zero taken left all = ([], sym (append-nil taken), tt)
  settle_tail P (suc k) taken left all = by (find (can_follow is_same taken) left) refl (λ x t h. settle_tail P k (taken ++ x ∷ []) t h)
    where
      by : (o : Option (ClassOf N)) → find (can_follow is_same taken) left ≡ o
          → ((x : ClassOf N) (t : List (ClassOf N)) → AllByRecursion P t → (back : List (ClassOf N)) × (settle_behind is_same k (taken ++ x ∷ []) t ≡ (taken ++ x ∷ []) ++ back) × AllByRecursion P back)
          → (back : List (ClassOf N)) × (option_map_or (λ x. settle_behind is_same k (taken ++ x ∷ []) (without_first (can_follow is_same taken) left)) o taken ≡ taken ++ back) × AllByRecursion P back
      by None e next = ([], sym (append-nil taken), tt)
      by (Some x) e next =
          let rest = without_first (can_follow is_same taken) left in
          let each = All-reordered P left (x ∷ rest) (taken_out (can_follow is_same taken) left x (split (can_follow is_same taken) left x e)) all in
          let r = next x rest each.1 in
          (x ∷ r.0, r.1 ∙ append_assoc taken (x ∷ []) r.0, (each.0, r.2))

  -- what holds of each class holds of each that is taken
  pub All-settled : (P : ClassOf N → Type 0) (cs : List (ClassOf N)) → AllByRecursion P cs → AllByRecursion P (settled is_same cs)
  All-settled P cs all = let r = settle_tail P (length cs) [] cs all in subst (AllByRecursion P) (sym r.1) r.2

  -- where the first classes can be taken in turn, they stay in front
  pub front_settle : (P : ClassOf N → Type 0) (front back : List (ClassOf N)) → IsTakenInTurn is_same [] front → AllByRecursion P back
      → (others : List (ClassOf N)) × (settled is_same (front ++ back) ≡ front ++ others) × AllByRecursion P others
  front_settle P front back turn all =
      let r = settle_tail P (length back) front back all in (
        r.0,
        ap (λ n. settle_behind is_same n [] (front ++ back)) (length-append front back) ∙ in_turn is_same reflexive equal (length back) [] front back turn ∙ r.1,
        r.2,
      )

  -- where those of the kernel stand in front and can be taken in turn, they stay there
  pub front_settled : (is_kernel : ClassOf N → Bool) (cs : List (ClassOf N)) → IsKernelInFront is_kernel cs → IsTakenInTurn is_same [] (filter is_kernel cs) → IsKernelInFront is_kernel (settled is_same cs)
  front_settled is_kernel cs f turn =
      let r = front_settle (λ c. is_kernel c ≡ false) f.front f.back (subst (IsTakenInTurn is_same []) (front_is is_kernel cs f) turn) f.of_user in
      record { front = f.front; back = r.0; whole = ap (settled is_same) f.whole ∙ r.1; of_kernel = f.of_kernel; of_user = r.2 }

  -- and are the same
  pub front_settled_same : (is_kernel : ClassOf N → Bool) (cs : List (ClassOf N)) → IsKernelInFront is_kernel cs → IsTakenInTurn is_same [] (filter is_kernel cs) → filter is_kernel (settled is_same cs) ≡ filter is_kernel cs
  unfolding front_settled
  front_settled_same is_kernel cs f turn = front_is is_kernel (settled is_same cs) (front_settled is_kernel cs f turn) ∙ sym (front_is is_kernel cs f)
