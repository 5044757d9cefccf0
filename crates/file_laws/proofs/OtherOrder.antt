-- Lists of the same items, and the same classes in another order.
use Rattle.std.proofs.Common.{◌≡◌, ℕ, zero, suc, ◌<◌, Bool, true, false, cond, List, [], ◌∷◌, ◌++◌, length, get_or, set, swap, filter, find, slice_get, Option, Some, None, refl, sym, ap, subst, ◌∙◌, arith}
use Rattle.std.specs.Prelude.{if◌then◌else◌, is_some}
use Rattle.std.specs.List.{AllByRecursion}
use Rattle.std.specs.List.Sorted.{IsPermutation}
use Rattle.std.proofs.lemmas.List.Elements.{All-from_recursion, recursion_from_All}
use Rattle.std.proofs.lemmas.List.Sorted.{IsPermutation-refl, IsPermutation-sym, IsPermutation-trans, IsPermutation-cons, IsPermutation-keeps, IsPermutation-map, IsPermutation-middle, IsPermutation-append_left, All-permutation}
use Rattle.image_model.specs.Image.{ClassOf}
use Rattle.image_model.specs.Chain.{class_named}
use Rattle.image_model.specs.Valid.{HasNoRepeat, class_names}
use Rattle.file_model.specs.Changes.{DefinitionOf}
use Rattle.file_model.specs.Hierarchy.{has_class}
use Rattle.file_model.specs.Applied.{new_class, class_again, changed_class, with_definition, with_class_side, with_comment}
use Rattle.file_laws.specs.Orders.{AreSameClasses}
use Rattle.file_laws.proofs.Moves.{All-weaker}
use Rattle.file_laws.proofs.Redefined.{named_at, places}
use Rattle.file_laws.proofs.Repeats.{no_repeat_moved, no_repeat_last, no_repeat_filter, absent, names_changed}

-- A relation holds between a list and the same items in another order if it is reflexive and transitive, and goes under a first item and over an exchange of the first two.
module _ {X : Type 0} (R : List X → List X → Type 0) (same : (xs : List X) → R xs xs)
    (under : (x : X) (xs ys : List X) → R xs ys → R (x ∷ xs) (x ∷ ys))
    (turn : (x y : X) (xs : List X) → R (x ∷ y ∷ xs) (y ∷ x ∷ xs))
    (through : (xs ys zs : List X) → R xs ys → R ys zs → R xs zs) where
  to_front : (l : List X) (j : ℕ) (x d : X) → j < length l → R (x ∷ l) (get_or l j d ∷ set l j x)
  to_front [] j x d h = absurd (omega arith)
  to_front (y ∷ l) zero x d h = turn x y l
  to_front (y ∷ l) (suc j) x d h =
      through _ _ _ (turn x y l) (through _ _ _ (under y _ _ (to_front l j x d (omega arith))) (turn y (get_or l j d) (set l j x)))

  exchanged : (l : List X) (i j : ℕ) (d : X) → i < length l → j < length l → R l (set (set l i (get_or l j d)) j (get_or l i d))
  exchanged [] i j d p q = absurd (omega arith)
  exchanged (x ∷ l) zero zero d p q = same (x ∷ l)
  exchanged (x ∷ l) zero (suc j) d p q = to_front l j x d (omega arith)
  exchanged (x ∷ l) (suc i) zero d p q = to_front l i x d (omega arith)
  exchanged (x ∷ l) (suc i) (suc j) d p q = under x _ _ (exchanged l i j d (omega arith) (omega arith))

  swapped : (l : List X) (i j : ℕ) → i < length l → j < length l → R l (swap l i j)
  swapped [] i j p q = same []
  swapped (x ∷ l) i j p q = exchanged (x ∷ l) i j x p q

  pub along_order : (xs ys : List X) → IsPermutation xs ys → R xs ys
  along_order xs = IsPermutation-keeps xs (R xs) (same xs) (λ l i j p q h. through xs l _ h (swapped l i j p q))

-- the items that pass are the same
pub filter_moved : {X : Type 0} (p : X → Bool) (xs ys : List X) → IsPermutation xs ys → IsPermutation (filter p xs) (filter p ys)
filter_moved {X} p = along_order (λ xs ys. IsPermutation (filter p xs) (filter p ys))
    (λ xs. IsPermutation-refl (filter p xs))
    (λ x xs ys h. one (p x) x xs ys h)
    (λ x y xs. two (p x) (p y) x y xs)
    (λ xs ys zs. IsPermutation-trans (filter p xs) (filter p ys) (filter p zs))
  where
    one : (b : Bool) (x : X) (xs ys : List X) → IsPermutation (filter p xs) (filter p ys) → IsPermutation (cond b (x ∷ filter p xs) (filter p xs)) (cond b (x ∷ filter p ys) (filter p ys))
    one true x xs ys h = IsPermutation-cons x (filter p xs) (filter p ys) h
    one false x xs ys h = h

    two : (a b : Bool) (x y : X) (xs : List X) → IsPermutation (cond a (x ∷ cond b (y ∷ filter p xs) (filter p xs)) (cond b (y ∷ filter p xs) (filter p xs))) (cond b (y ∷ cond a (x ∷ filter p xs) (filter p xs)) (cond a (x ∷ filter p xs) (filter p xs)))
    two true true x y xs = IsPermutation-middle (x ∷ []) y (filter p xs)
    two true false x y xs = IsPermutation-refl (x ∷ filter p xs)
    two false true x y xs = IsPermutation-refl (y ∷ filter p xs)
    two false false x y xs = IsPermutation-refl (filter p xs)

-- what holds of each item holds of each in another order
pub all_reordered : {X : Type 0} (P : X → Type 0) (xs ys : List X) → IsPermutation xs ys → AllByRecursion P xs → AllByRecursion P ys
all_reordered P xs ys p all = recursion_from_All P ys (All-permutation P xs ys p (All-from_recursion P xs all))

-- what is found passes, and what holds of each item holds of it
find_gives : {X : Type 0} (P : X → Type 0) (p : X → Bool) (xs : List X) (x : X) → AllByRecursion P xs → find p xs ≡ Some x → P x × (p x ≡ true)
find_gives P p [] x all e = absurd (cc)
find_gives P p (y ∷ ys) x all e = by (p y) refl e (find_gives P p ys x all.1)
  where
    by : (b : Bool) → p y ≡ b → cond b (Some y) (find p ys) ≡ Some x → (find p ys ≡ Some x → P x × (p x ≡ true)) → P x × (p x ≡ true)
    by true q h rest = let same : y ≡ x = cc in (subst P same all.0, ap p (sym same) ∙ q)
    by false q h rest = rest h

-- over names that a test tells apart
module _ {N : Type 0} (is_same : N → N → Bool) (reflexive : (n : N) → is_same n n ≡ true) (equal : (s t : N) → is_same s t ≡ true → s ≡ t) where
  -- in the other order no two classes have one name either
  pub distinct_moved : (cs ds : List (ClassOf N)) → AreSameClasses cs ds → HasNoRepeat (class_names ds)
  distinct_moved cs ds m = no_repeat_moved is_same reflexive equal cs ds m.permutation m.distinct

  -- classes are the same as themselves, the other way round, and over a third order
  pub same_itself : (cs : List (ClassOf N)) → HasNoRepeat (class_names cs) → AreSameClasses cs cs
  same_itself cs h = record { permutation = IsPermutation-refl cs; distinct = h }

  pub same_back : (cs ds : List (ClassOf N)) → AreSameClasses cs ds → AreSameClasses ds cs
  same_back cs ds m = record { permutation = IsPermutation-sym cs ds m.permutation; distinct = distinct_moved cs ds m }

  pub same_through : (cs ds es : List (ClassOf N)) → AreSameClasses cs ds → AreSameClasses ds es → AreSameClasses cs es
  same_through cs ds es m k = record { permutation = IsPermutation-trans cs ds es m.permutation k.permutation; distinct = m.distinct }

  -- each class is found by its name
  found_each : (cs : List (ClassOf N)) → HasNoRepeat (class_names cs) → AllByRecursion (λ (c : ClassOf N). class_named is_same cs c.name ≡ Some c) cs
  found_each cs h =
      All-weaker (λ (c : ClassOf N). (k : ℕ) × (slice_get cs k ≡ Some c)) (λ (c : ClassOf N). class_named is_same cs c.name ≡ Some c) cs
      (λ c place. named_at is_same reflexive equal cs place.0 c h place.1) (places [] cs)

  -- each class of one order is found by its name in the other
  pub found_in : (cs ds : List (ClassOf N)) → AreSameClasses cs ds → AllByRecursion (λ (c : ClassOf N). class_named is_same ds c.name ≡ Some c) cs
  found_in cs ds m =
      let back = same_back cs ds m in
      all_reordered (λ (c : ClassOf N). class_named is_same ds c.name ≡ Some c) ds cs back.permutation (found_each ds back.distinct)

  -- what is found in one order is found in the other
  found_there : (cs ds : List (ClassOf N)) (n : N) (c : ClassOf N) → AreSameClasses cs ds → class_named is_same cs n ≡ Some c → class_named is_same ds n ≡ Some c
  found_there cs ds n c m e =
      let got = find_gives (λ (d : ClassOf N). class_named is_same ds d.name ≡ Some d) (λ (d : ClassOf N). is_same n d.name) cs c (found_in cs ds m) e in
      ap (class_named is_same ds) (equal n c.name got.1) ∙ got.0

  -- the class of a name
  pub named_same : (cs ds : List (ClassOf N)) → AreSameClasses cs ds → (n : N) → class_named is_same cs n ≡ class_named is_same ds n
  named_same cs ds m n = by (class_named is_same cs n) refl (class_named is_same ds n) refl
    where
      by : (o : Option (ClassOf N)) → class_named is_same cs n ≡ o → (p : Option (ClassOf N)) → class_named is_same ds n ≡ p → o ≡ p
      by (Some c) e p f = sym (found_there cs ds n c m e) ∙ f
      by None e (Some d) f = sym e ∙ found_there ds cs n d (same_back cs ds m) f
      by None e None f = refl

  -- classes that are changed and keep their names
  pub same_changed : (n : N) (f : ClassOf N → ClassOf N) → ((c : ClassOf N) → (f c).name ≡ c.name) → (cs ds : List (ClassOf N)) → AreSameClasses cs ds → AreSameClasses (changed_class is_same n f cs) (changed_class is_same n f ds)
  same_changed n f keeps cs ds m = record {
    permutation = IsPermutation-map (λ (c : ClassOf N). if is_same n c.name then f c else c) cs ds m.permutation;
    distinct = subst (λ (ns : List N). HasNoRepeat ns) (sym (names_changed is_same reflexive equal n f keeps cs)) m.distinct;
  }

  -- with other comments, and with other class-instance variables
  pub same_with_comment : (n : N) (text : List ℕ) (cs ds : List (ClassOf N)) → AreSameClasses cs ds → AreSameClasses (with_comment is_same n text cs) (with_comment is_same n text ds)
  same_with_comment n text = same_changed n (λ (c : ClassOf N). record c { comment = text }) (λ c. refl)

  pub same_with_class_side : (n : N) (names : List N) (cs ds : List (ClassOf N)) → AreSameClasses cs ds → AreSameClasses (with_class_side is_same n names cs) (with_class_side is_same n names ds)
  same_with_class_side n names = same_changed n (λ (c : ClassOf N). record c { class_side = names }) (λ c. refl)

  -- without some classes
  pub same_filter : (p : ClassOf N → Bool) (cs ds : List (ClassOf N)) → AreSameClasses cs ds → AreSameClasses (filter p cs) (filter p ds)
  same_filter p cs ds m = record { permutation = filter_moved p cs ds m.permutation; distinct = no_repeat_filter is_same reflexive equal p cs m.distinct }

  -- with one more class of another name
  names_behind : (c : ClassOf N) (cs : List (ClassOf N)) → class_names (cs ++ c ∷ []) ≡ class_names cs ++ c.name ∷ []
  names_behind c [] = refl
  names_behind c (d ∷ ds) = ap (λ ns. d.name ∷ ns) (names_behind c ds)

  pub same_with_new : (c : ClassOf N) (cs ds : List (ClassOf N)) → has_class is_same cs c.name ≡ false → AreSameClasses cs ds → AreSameClasses (cs ++ c ∷ []) (ds ++ c ∷ [])
  same_with_new c cs ds fresh m = record {
    permutation = IsPermutation-append_left (c ∷ []) cs ds m.permutation;
    distinct = subst (λ (ns : List N). HasNoRepeat ns) (sym (names_behind c cs)) (no_repeat_last is_same reflexive equal (class_names cs) c.name m.distinct (absent is_same reflexive equal cs c.name fresh));
  }

  -- with a definition, before the classes are put in order
  pub same_with_definition : (kernel : Bool) (d : DefinitionOf N) (cs ds : List (ClassOf N)) → AreSameClasses cs ds → AreSameClasses (with_definition is_same kernel d cs) (with_definition is_same kernel d ds)
  same_with_definition kernel d cs ds m = by (has_class is_same cs d.name) refl
    where
      at : (b : Bool) (xs : List (ClassOf N)) → has_class is_same xs d.name ≡ b → (if b then changed_class is_same d.name (class_again d) xs else xs ++ new_class kernel d ∷ []) ≡ with_definition is_same kernel d xs
      at b xs e = ap (λ (t : Bool). if t then changed_class is_same d.name (class_again d) xs else xs ++ new_class kernel d ∷ []) (sym e)

      other : (b : Bool) → has_class is_same cs d.name ≡ b → has_class is_same ds d.name ≡ b
      other b e = ap is_some (sym (named_same cs ds m d.name)) ∙ e

      by : (b : Bool) → has_class is_same cs d.name ≡ b → AreSameClasses (with_definition is_same kernel d cs) (with_definition is_same kernel d ds)
      by true e =
          subst (λ (xs : List (ClassOf N)). AreSameClasses xs (with_definition is_same kernel d ds)) (at true cs e)
          (subst (λ (ys : List (ClassOf N)). AreSameClasses (changed_class is_same d.name (class_again d) cs) ys) (at true ds (other true e)) (same_changed d.name (class_again d) (λ c. refl) cs ds m))
      by false e =
          subst (λ (xs : List (ClassOf N)). AreSameClasses xs (with_definition is_same kernel d ds)) (at false cs e)
          (subst (λ (ys : List (ClassOf N)). AreSameClasses (cs ++ new_class kernel d ∷ []) ys) (at false ds (other false e)) (same_with_new (new_class kernel d) cs ds e m))
