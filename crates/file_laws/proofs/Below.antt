-- The classes below a class, in any order and in one pass.
use Rattle.std.proofs.Common.{◌≡◌, ◌⊎◌, inl, inr, ℕ, zero, suc, Bool, true, false, cond, List, [], ◌∷◌, ◌++◌, length, filter, find, Option, Some, None, slice_get, refl, sym, ap, ◌∙◌, true≢false, subst}
use Rattle.std.specs.Prelude.{◌||◌, ◌&&◌, if◌then◌else◌, is_some}
use Rattle.std.specs.List.{list_any, flat_map, AllByRecursion}
use Rattle.std.specs.Option.{option_map_or}
use Rattle.std.specs.List.Sorted.{IsPermutation}
use Rattle.std.proofs.lemmas.List.Sorted.{list_any-IsPermutation, length_permutation, Contains-permutation, IsPermutation-refl, IsPermutation-sym}
use Rattle.std.proofs.lemmas.List.Folds.{list_any-append}
use Rattle.image_model.specs.Image.{ClassOf}
use Rattle.image_model.specs.Upwards.{upwards}
use Rattle.image_model.specs.Chain.{class_named, class_of_name, superclass_of, chain_from}
use Rattle.image_model.specs.Means.{VariableKind, variables}
use Rattle.image_model.specs.Valid.{HasNoRepeat, class_names}
use Rattle.image_model.proofs.Ends.{contains-place, place-contains, find-place}
use Rattle.file_model.specs.Hierarchy.{has_class, settled, stands_in, has_repeat, chain_variables, tree_below, stands_twice}
use Rattle.file_model.specs.Changes.{DefinitionOf}
use Rattle.file_model.specs.Refusals.{lacks_superclass, makes_cycle}
use Rattle.file_model.specs.Applied.{with_definition, defined}
use Rattle.file_laws.specs.Settling.{IsTakenInTurn, AreInOrder}
use Rattle.file_laws.proofs.Settled.{turn_of}
use Rattle.file_laws.proofs.Moves.{Inherits, stands_either, stands_alone}
use Rattle.file_laws.proofs.Redefined.{is_below, inherits, below_itself, named_at, places, again_settled}
use Rattle.file_laws.proofs.Repeats.{no_repeat_moved}
use Rattle.file_laws.proofs.Defined.{has_stands, root_stays, again_of, defined_leaves}

-- what is found passes
find_passes : {X : Type 0} (p : X → Bool) (xs : List X) (x : X) → find p xs ≡ Some x → p x ≡ true
find_passes p [] x e = absurd (cc)
find_passes p (y ∷ ys) x e = by (p y) refl e (find_passes p ys x)
  where
    by : (b : Bool) → p y ≡ b → cond b (Some y) (find p ys) ≡ Some x → (find p ys ≡ Some x → p x ≡ true) → p x ≡ true
    by true q r rest = let same : y ≡ x = cc in ap p (sym same) ∙ q
    by false q r rest = rest r

nothing_found : {X : Type 0} (o : Option X) → is_some o ≡ false → o ≡ None
nothing_found None h = refl
nothing_found (Some x) h = absurd (true≢false h)

-- two functions that agree lead upwards alike
upwards_alike : {X : Type 0} (f g : X → Option X) → ((x : X) → f x ≡ g x) → (k : ℕ) (o : Option X) → upwards f k o ≡ upwards g k o
upwards_alike f g h zero o = refl
upwards_alike f g h (suc k) None = refl
upwards_alike f g h (suc k) (Some x) = ap (λ ys. x ∷ ys) (ap (upwards f k) (h x) ∙ upwards_alike f g h k (g x))

-- one of the items that pass one test passes another
any_filter : {X : Type 0} (p q : X → Bool) (xs : List X) → list_any q (filter p xs) ≡ list_any (λ x. p x && q x) xs
any_filter p q [] = refl
any_filter p q (x ∷ xs) = by (p x) (any_filter p q xs)
  where
    by : (b : Bool) → list_any q (filter p xs) ≡ list_any (λ y. p y && q y) xs → list_any q (cond b (x ∷ filter p xs) (filter p xs)) ≡ (b && q x || list_any (λ y. p y && q y) xs)
    by true rest = ap (λ t. q x || t) rest
    by false rest = rest

-- whether a class is that of a name, or its superclass is among names
abbrev pub is_marked : {N : Type 0} → (N → N → Bool) → N → List N → ClassOf N → Bool
is_marked same n names c = same n c.name || option_map_or (λ s. list_any (same s) names) c.superclass false

-- the classes of one pass that are that of a name or stand below it, where the names of those before them are known
abbrev pub marked : {N : Type 0} → (N → N → Bool) → N → List N → List (ClassOf N) → List (ClassOf N)
marked same n names [] = []
marked same n names (c ∷ cs) = if is_marked same n names c then c ∷ marked same n (names ++ c.name ∷ []) cs else marked same n names cs

-- What is known of a class of a list, by a test of names that tells the class of a name and those below it.
record IsTold {N : Type 0} (is_same : N → N → Bool) (n : N) (m : N → Bool) (p : ClassOf N → Bool) (x : ClassOf N) : Type 0 where
  told : p x ≡ m x.name
  itself : is_same n x.name ≡ true → m x.name ≡ true
  others : is_same n x.name ≡ false → Inherits m x

-- over names that a test tells apart
module _ {N : Type 0} (is_same : N → N → Bool) (reflexive : (n : N) → is_same n n ≡ true) (equal : (s t : N) → is_same s t ≡ true → s ≡ t) where
  -- in another order the same classes are found
  module _ (xs ys : List (ClassOf N)) (same : IsPermutation xs ys) (once : HasNoRepeat (class_names xs)) where
    found_moved : (n : N) → class_named is_same xs n ≡ class_named is_same ys n
    found_moved n = by (class_named is_same xs n) refl
      where
        by : (o : Option (ClassOf N)) → class_named is_same xs n ≡ o → o ≡ class_named is_same ys n
        by None e =
            sym (nothing_found (class_named is_same ys n)
            (has_stands is_same reflexive equal ys n ∙ sym (list_any-IsPermutation (λ (c : ClassOf N). is_same n c.name) xs ys same) ∙ sym (has_stands is_same reflexive equal xs n) ∙ ap is_some e))
        by (Some x) e =
            let at = find-place (λ (c : ClassOf N). is_same n c.name) xs x e in
            let there = contains-place ys x (Contains-permutation xs ys x same (place-contains xs at.0 x at.1)) in
            sym (ap (class_named is_same ys) (equal n x.name (find_passes (λ (c : ClassOf N). is_same n c.name) xs x e)) ∙ named_at is_same reflexive equal ys there.0 x (no_repeat_moved is_same reflexive equal xs ys same once) there.1)

    above_moved : (c : ClassOf N) → superclass_of is_same xs c ≡ superclass_of is_same ys c
    above_moved c = by c.superclass
      where
        by : (o : Option N) → class_of_name is_same xs o ≡ class_of_name is_same ys o
        by None = refl
        by (Some n) = found_moved n

    chain_moved : (o : Option (ClassOf N)) → chain_from is_same xs o ≡ chain_from is_same ys o
    chain_moved o =
        upwards_alike (superclass_of is_same xs) (superclass_of is_same ys) above_moved (length xs) o
        ∙ ap (λ k. upwards (superclass_of is_same ys) k o) (sym (length_permutation xs ys same))

    -- and the same variables stand twice
    pub twice_moved : (kind : VariableKind) (n : N) → stands_twice is_same xs kind n ≡ stands_twice is_same ys kind n
    twice_moved kind n =
        (λ i. list_any (λ (c : ClassOf N). has_repeat is_same (flat_map (variables kind) (chain_moved (Some c) i))) (filter (λ (c : ClassOf N). stands_in is_same n (chain_moved (Some c) i)) xs))
        ∙ any_filter in_tree repeats xs
        ∙ list_any-IsPermutation (λ (c : ClassOf N). in_tree c && repeats c) xs ys same
        ∙ sym (any_filter in_tree repeats ys)
      where
        in_tree : ClassOf N → Bool
        in_tree c = stands_in is_same n (chain_from is_same ys (Some c))

        repeats : ClassOf N → Bool
        repeats c = has_repeat is_same (chain_variables is_same ys kind c)

  -- names that are marked
  among_marked : (m : N → Bool) (names : List N) (s : N) → AllByRecursion (λ t. m t ≡ true) names → list_any (is_same s) names ≡ true → m s ≡ true
  among_marked m [] s all h = absurd (true≢false (sym h))
  among_marked m (t ∷ ts) s all h = by (is_same s t) refl h (λ k. among_marked m ts s all.1 k)
    where
      by : (b : Bool) → is_same s t ≡ b → (b || list_any (is_same s) ts) ≡ true → (list_any (is_same s) ts ≡ true → m s ≡ true) → m s ≡ true
      by true e k rest = ap m (equal s t e) ∙ all.0
      by false e k rest = rest k

  All-end : (P : N → Type 0) (ts : List N) (t : N) → AllByRecursion P ts → P t → AllByRecursion P (ts ++ t ∷ [])
  All-end P [] t all h = (h, tt)
  All-end P (u ∷ us) t all h = (all.0, All-end P us t all.1 h)

  or_left : (a b : Bool) → a ≡ true → (a || b) ≡ true
  or_left true b h = refl
  or_left false b h = absurd (true≢false (sym h))

  or_right : (a b : Bool) → b ≡ true → (a || b) ≡ true
  or_right true b h = refl
  or_right false b h = h

  -- one pass finds what passes
  filter_marked : (n : N) (m : N → Bool) (p : ClassOf N → Bool) (seen : List (ClassOf N)) (names : List N) (rest : List (ClassOf N)) → IsTakenInTurn is_same seen rest → AllByRecursion (IsTold is_same n m p) rest
      → ((s : N) → stands_in is_same s seen ≡ true → m s ≡ true → list_any (is_same s) names ≡ true) → AllByRecursion (λ t. m t ≡ true) names
      → filter p rest ≡ marked is_same n names rest
  filter_marked n m p seen names [] turn told cov all = refl
  filter_marked n m p seen names (x ∷ xs) turn told cov all =
      by (m x.name) refl (λ ts c a. filter_marked n m p (seen ++ x ∷ []) ts xs turn.1 told.1 c a)
    where
      at : (s : N) (b : Bool) → m s ≡ b → (a : Bool) → list_any (is_same s) names ≡ a → stands_in is_same s seen ≡ true → a ≡ b
      at s true e a w h = sym w ∙ cov s h e
      at s false e true w h = absurd (true≢false (sym (among_marked m names s all w) ∙ e))
      at s false e false w h = refl

      below : is_same n x.name ≡ false → (o : Option N) → x.superclass ≡ o → option_map_or (λ t. stands_in is_same t seen) o true ≡ true → option_map_or (λ s. list_any (is_same s) names) o false ≡ m x.name
      below other None q h = sym ((told.0.others other).root q)
      below other (Some s) q h = at s (m s) refl (list_any (is_same s) names) refl h ∙ sym ((told.0.others other).below s q)

      decides : (b : Bool) → is_same n x.name ≡ b → is_marked is_same n names x ≡ m x.name
      decides true e = ap (λ b. b || option_map_or (λ s. list_any (is_same s) names) x.superclass false) e ∙ sym (told.0.itself e)
      decides false e = ap (λ b. b || option_map_or (λ s. list_any (is_same s) names) x.superclass false) e ∙ below e x.superclass refl turn.0

      longer : (s : N) → m s ≡ true → (stands_in is_same s seen ≡ true) ⊎ (stands_in is_same s (x ∷ []) ≡ true) → list_any (is_same s) (names ++ x.name ∷ []) ≡ true
      longer s f (inl k) = list_any-append (is_same s) names (x.name ∷ []) ∙ or_left (list_any (is_same s) names) (list_any (is_same s) (x.name ∷ [])) (cov s k f)
      longer s f (inr k) = list_any-append (is_same s) names (x.name ∷ []) ∙ or_right (list_any (is_same s) names) (list_any (is_same s) (x.name ∷ [])) k

      as_before : m x.name ≡ false → (s : N) → m s ≡ true → (stands_in is_same s seen ≡ true) ⊎ (stands_in is_same s (x ∷ []) ≡ true) → list_any (is_same s) names ≡ true
      as_before e s f (inl k) = cov s k f
      as_before e s f (inr k) = absurd (true≢false (sym f ∙ ap m (stands_alone is_same reflexive equal s x k) ∙ e))

      by : (b : Bool) → m x.name ≡ b
          → ((ts : List N) → ((s : N) → stands_in is_same s (seen ++ x ∷ []) ≡ true → m s ≡ true → list_any (is_same s) ts ≡ true) → AllByRecursion (λ t. m t ≡ true) ts → filter p xs ≡ marked is_same n ts xs)
          → cond (p x) (x ∷ filter p xs) (filter p xs) ≡ (if is_marked is_same n names x then x ∷ marked is_same n (names ++ x.name ∷ []) xs else marked is_same n names xs)
      by true e next =
          ap (λ b. cond b (x ∷ filter p xs) (filter p xs)) (told.0.told ∙ e)
          ∙ ap (λ ys. x ∷ ys) (next (names ++ x.name ∷ []) (λ s h f. longer s f (stands_either is_same reflexive equal s seen (x ∷ []) h)) (All-end (λ t. m t ≡ true) names x.name all e))
          ∙ sym (ap (λ (b : Bool). if b then x ∷ marked is_same n (names ++ x.name ∷ []) xs else marked is_same n names xs) (decides (is_same n x.name) refl ∙ e))
      by false e next =
          ap (λ b. cond b (x ∷ filter p xs) (filter p xs)) (told.0.told ∙ e)
          ∙ next names (λ s h f. as_before e s f (stands_either is_same reflexive equal s seen (x ∷ []) h)) all
          ∙ sym (ap (λ (b : Bool). if b then x ∷ marked is_same n (names ++ x.name ∷ []) xs else marked is_same n names xs) (decides (is_same n x.name) refl ∙ e))

  -- two facts of each item
  All-both : (P Q R : ClassOf N → Type 0) → ((x : ClassOf N) → P x → Q x → R x) → (xs : List (ClassOf N)) → AllByRecursion P xs → AllByRecursion Q xs → AllByRecursion R xs
  All-both P Q R f [] a b = tt
  All-both P Q R f (x ∷ xs) a b = (f x a.0 b.0, All-both P Q R f xs a.1 b.1)

  -- of classes in order one pass finds the class of a name and those below it
  pub tree_marked : (classes : List (ClassOf N)) (n : N) → AreInOrder classes → tree_below is_same classes n ≡ marked is_same n [] classes
  tree_marked classes n o = filter_marked n (is_below is_same classes n) in_tree [] [] classes (turn_of is_same reflexive equal [] classes o.before) told (λ s h f. absurd (true≢false (sym h))) tt
    where
      in_tree : ClassOf N → Bool
      in_tree c = stands_in is_same n (chain_from is_same classes (Some c))

      told : AllByRecursion (IsTold is_same n (is_below is_same classes n) in_tree) classes
      told =
          All-both (λ (x : ClassOf N). (k : ℕ) × (slice_get classes k ≡ Some x)) (λ (x : ClassOf N). is_same n x.name ≡ false → Inherits (is_below is_same classes n) x) (IsTold is_same n (is_below is_same classes n) in_tree) one classes (places [] classes) (inherits is_same reflexive equal classes n o.before o.distinct)
        where
          one : (x : ClassOf N) → (k : ℕ) × (slice_get classes k ≡ Some x) → (is_same n x.name ≡ false → Inherits (is_below is_same classes n) x) → IsTold is_same n (is_below is_same classes n) in_tree x
          one x place inh = record {
            told = ap (λ (d : Option (ClassOf N)). stands_in is_same n (chain_from is_same classes d)) (sym (named_at is_same reflexive equal classes place.0 x o.distinct place.1));
            itself = λ e. ap (λ s. is_below is_same classes n s) (sym (equal n x.name e)) ∙ below_itself is_same reflexive equal classes n o.before o.distinct place.0 x place.1 (equal n x.name e);
            others = inh;
          }

  -- a definition that is not refused gives the classes with it in another order
  defined_permutes : (classes : List (ClassOf N)) (d : DefinitionOf N) (kernel : Bool) → AreInOrder classes → lacks_superclass is_same classes d ≡ false → makes_cycle is_same classes d ≡ false
      → IsPermutation (with_definition is_same kernel d classes) (defined is_same kernel d classes)
  defined_permutes classes d kernel o lacks cycle = by (has_class is_same classes d.name) refl d.superclass refl
    where
      unmoved : defined is_same kernel d classes ≡ with_definition is_same kernel d classes → IsPermutation (with_definition is_same kernel d classes) (defined is_same kernel d classes)
      unmoved e = subst (λ (ys : List (ClassOf N)). IsPermutation (with_definition is_same kernel d classes) ys) (sym e) (IsPermutation-refl (with_definition is_same kernel d classes))

      by : (b : Bool) → has_class is_same classes d.name ≡ b → (s : Option N) → d.superclass ≡ s → IsPermutation (with_definition is_same kernel d classes) (defined is_same kernel d classes)
      by true there None e = unmoved (root_stays is_same reflexive equal classes d kernel o.distinct there o.before e)
      by true there (Some p) e = (again_settled is_same reflexive equal classes d p kernel (again_of is_same reflexive equal classes d p o there e lacks cycle)).same
      by false fresh s e = unmoved (ap (λ (b : Bool). if b then settled is_same (with_definition is_same kernel d classes) else with_definition is_same kernel d classes) fresh)

  -- so the same variables stand twice
  pub defined_twice : (classes : List (ClassOf N)) (d : DefinitionOf N) (kernel : Bool) → AreInOrder classes → lacks_superclass is_same classes d ≡ false → makes_cycle is_same classes d ≡ false
      → (kind : VariableKind) (n : N) → stands_twice is_same (with_definition is_same kernel d classes) kind n ≡ stands_twice is_same (defined is_same kernel d classes) kind n
  defined_twice classes d kernel o lacks cycle =
      let same = defined_permutes classes d kernel o lacks cycle in
      let leaves = defined_leaves is_same reflexive equal classes d kernel o lacks cycle in
      twice_moved (with_definition is_same kernel d classes) (defined is_same kernel d classes) same
      (no_repeat_moved is_same reflexive equal (defined is_same kernel d classes) (with_definition is_same kernel d classes) (IsPermutation-sym (with_definition is_same kernel d classes) (defined is_same kernel d classes) same) leaves.order.distinct)
