-- Names of classes that stand once, and classes of which some are left out.
use Rattle.std.proofs.Common.{◌≡◌, ◌⊎◌, inl, inr, ℕ, zero, suc, ◌+◌, ◌≤◌, Bool, true, false, not, cond, List, [], ◌∷◌, ◌++◌, filter, find, Some, slice_get, refl, sym, ap, ◌∙◌, true≢false, arith}
use Rattle.std.specs.Prelude.{◌||◌, if◌then◌else◌, is_some}
use Rattle.std.specs.List.{list_any, sum_by, AllByRecursion}
use Rattle.std.specs.Option.{option_map_or}
use Rattle.std.specs.List.Sorted.{IsPermutation}
use Rattle.std.proofs.lemmas.List.Sorted.{IsPermutation-map, sum_by-IsPermutation}
use Rattle.std.proofs.lemmas.List.Sums.{sum_by-cons}
use Rattle.image_model.specs.Image.{ClassOf}
use Rattle.image_model.specs.Valid.{HasNoRepeat, class_names}
use Rattle.file_model.specs.Hierarchy.{has_class, stands_in}
use Rattle.file_model.specs.Applied.{changed_class}
use Rattle.file_laws.specs.Settling.{IsTakenInTurn}
use Rattle.file_laws.proofs.Moves.{follows_more, stands_either, stands_left, stands_right, stands_alone}
use Rattle.file_laws.proofs.Redefined.{no_repeat_behind}

-- one for a test that passes, and nothing for one that fails
abbrev weight : Bool → ℕ
weight b = cond b 1 0

-- how often a name stands in a list
abbrev times : {N : Type 0} → (N → N → Bool) → N → List N → ℕ
times is_same t xs = sum_by (λ x. weight (is_same t x)) xs

-- no item passes
pub none_pass : {X : Type 0} (q : X → Bool) (xs : List X) → list_any q xs ≡ false → AllByRecursion (λ x. q x ≡ false) xs
none_pass q [] h = tt
none_pass q (x ∷ xs) h = by (q x) refl h (none_pass q xs)
  where
    by : (b : Bool) → q x ≡ b → (b || list_any q xs) ≡ false → (list_any q xs ≡ false → AllByRecursion (λ y. q y ≡ false) xs) → (q x ≡ false) × AllByRecursion (λ y. q y ≡ false) xs
    by true e k rest = absurd (true≢false k)
    by false e k rest = (e, rest k)

-- over names that a test tells apart
module _ {N : Type 0} (is_same : N → N → Bool) (reflexive : (n : N) → is_same n n ≡ true) (equal : (s t : N) → is_same s t ≡ true → s ≡ t) where
  -- of one more name in front
  times_more : (t x : N) (xs : List N) → times is_same t (x ∷ xs) ≡ weight (is_same t x) + times is_same t xs
  times_more t x xs = sum_by-cons (λ (y : N). weight (is_same t y)) x xs

  -- a name that stands at no place stands never
  times_none : (t : N) (xs : List N) → ((j : ℕ) → slice_get xs j ≡ Some t → ⊥) → times is_same t xs ≡ 0
  times_none t [] no_place = refl
  times_none t (x ∷ xs) no_place = times_more t x xs ∙ by (is_same t x) refl (times_none t xs (λ j e. no_place (suc j) e))
    where
      by : (b : Bool) → is_same t x ≡ b → times is_same t xs ≡ 0 → weight b + times is_same t xs ≡ 0
      by true e h = absurd (no_place 0 (ap Some (sym (equal t x e))))
      by false e h = omega (arith, h)

  -- a name that stands at a place stands once at least
  times_some : (t : N) (xs : List N) (j : ℕ) → slice_get xs j ≡ Some t → 1 ≤ times is_same t xs
  times_some t [] j e = absurd (cc)
  times_some t (x ∷ xs) zero e =
      let same : x ≡ t = cc in
      let one : weight (is_same t x) ≡ 1 = ap weight (ap (is_same t) same ∙ reflexive t) in
      omega (arith, times_more t x xs, one)
  times_some t (x ∷ xs) (suc j) e = omega (arith, times_more t x xs, times_some t xs j e)

  -- where nothing stands twice, each name stands once at most
  once_each : (xs : List N) → HasNoRepeat xs → (t : N) → times is_same t xs ≤ 1
  once_each [] h t = omega arith
  once_each (x ∷ xs) h t = by (is_same t x) refl (once_each xs (no_repeat_behind x xs h) t)
    where
      by : (b : Bool) → is_same t x ≡ b → times is_same t xs ≤ 1 → times is_same t (x ∷ xs) ≤ 1
      by true e rest =
          let none : times is_same t xs ≡ 0 = times_none t xs (λ j at. let twice : 0 ≡ suc j = h 0 (suc j) t (ap Some (sym (equal t x e))) at in omega (arith, twice)) in
          let one : weight (is_same t x) ≡ 1 = ap weight e in
          omega (arith, times_more t x xs, one, none)
      by false e rest =
          let nothing : weight (is_same t x) ≡ 0 = ap weight e in
          omega (arith, times_more t x xs, nothing, rest)

  -- and the other way round
  no_repeat : (xs : List N) → ((t : N) → times is_same t xs ≤ 1) → HasNoRepeat xs
  no_repeat [] once j k t a b = absurd (cc)
  no_repeat (x ∷ xs) once zero zero t a b = refl
  no_repeat (x ∷ xs) once zero (suc k) t a b =
      let same : x ≡ t = cc in
      let one : weight (is_same t x) ≡ 1 = ap weight (ap (is_same t) same ∙ reflexive t) in
      absurd (omega (arith, times_more t x xs, one, times_some t xs k b, once t))
  no_repeat (x ∷ xs) once (suc j) zero t a b =
      let same : x ≡ t = cc in
      let one : weight (is_same t x) ≡ 1 = ap weight (ap (is_same t) same ∙ reflexive t) in
      absurd (omega (arith, times_more t x xs, one, times_some t xs j a, once t))
  no_repeat (x ∷ xs) once (suc j) (suc k) t a b =
      ap suc (no_repeat xs (λ s. let whole : times is_same s (x ∷ xs) ≤ 1 = once s in omega (arith, times_more s x xs, whole)) j k t a b)

  -- in another order nothing stands twice either
  pub no_repeat_moved : (cs ds : List (ClassOf N)) → IsPermutation cs ds → HasNoRepeat (class_names cs) → HasNoRepeat (class_names ds)
  no_repeat_moved cs ds p h =
      no_repeat (class_names ds) (λ t.
      let count : times is_same t (class_names ds) ≡ times is_same t (class_names cs) = sum_by-IsPermutation (λ (x : N). weight (is_same t x)) (class_names cs) (class_names ds) (IsPermutation-map (λ (c : ClassOf N). c.name) cs ds p) in
      let few : times is_same t (class_names cs) ≤ 1 = once_each (class_names cs) h t in
      omega (arith, count, few))

  -- of a name behind others
  times_last : (t n : N) (xs : List N) → times is_same t (xs ++ n ∷ []) ≡ times is_same t xs + weight (is_same t n)
  times_last t n [] = let alone : times is_same t (n ∷ []) ≡ weight (is_same t n) + times is_same t [] = times_more t n [] in let nothing : times is_same t [] ≡ 0 = refl in omega (arith, alone, nothing)
  times_last t n (x ∷ xs) = omega (arith, times_more t x (xs ++ n ∷ []), times_more t x xs, times_last t n xs)

  -- a new name behind others
  pub no_repeat_last : (xs : List N) (n : N) → HasNoRepeat xs → ((j : ℕ) → slice_get xs j ≡ Some n → ⊥) → HasNoRepeat (xs ++ n ∷ [])
  no_repeat_last xs n h new = no_repeat (xs ++ n ∷ []) (λ t. by t (is_same t n) refl)
    where
      by : (t : N) (b : Bool) → is_same t n ≡ b → times is_same t (xs ++ n ∷ []) ≤ 1
      by t true e =
          let none : times is_same t xs ≡ 0 = ap (λ s. times is_same s xs) (equal t n e) ∙ times_none n xs new in
          let one : weight (is_same t n) ≡ 1 = ap weight e in
          omega (arith, times_last t n xs, none, one)
      by t false e =
          let nothing : weight (is_same t n) ≡ 0 = ap weight e in
          omega (arith, times_last t n xs, nothing, once_each xs h t)

  -- where some classes are left out no name stands twice either
  times_filter : (t : N) (p : ClassOf N → Bool) (cs : List (ClassOf N)) → times is_same t (class_names (filter p cs)) ≤ times is_same t (class_names cs)
  times_filter t p [] = omega arith
  times_filter t p (c ∷ cs) = by (p c) (times_filter t p cs)
    where
      by : (b : Bool) → times is_same t (class_names (filter p cs)) ≤ times is_same t (class_names cs) → times is_same t (class_names (cond b (c ∷ filter p cs) (filter p cs))) ≤ times is_same t (class_names (c ∷ cs))
      by true h = omega (arith, h, times_more t c.name (class_names cs), times_more t c.name (class_names (filter p cs)))
      by false h = omega (arith, h, times_more t c.name (class_names cs))

  pub no_repeat_filter : (p : ClassOf N → Bool) (cs : List (ClassOf N)) → HasNoRepeat (class_names cs) → HasNoRepeat (class_names (filter p cs))
  no_repeat_filter p cs h =
      no_repeat (class_names (filter p cs)) (λ t. let fewer : times is_same t (class_names (filter p cs)) ≤ times is_same t (class_names cs) = times_filter t p cs in let few : times is_same t (class_names cs) ≤ 1 = once_each (class_names cs) h t in omega (arith, fewer, few))

  -- a class that is not there has its name at no place
  pub absent : (cs : List (ClassOf N)) (n : N) → has_class is_same cs n ≡ false → (j : ℕ) → slice_get (class_names cs) j ≡ Some n → ⊥
  absent [] n h j e = cc
  absent (y ∷ ys) n h j e = by (is_same n y.name) refl h j e (absent ys n)
    where
      by : (b : Bool) → is_same n y.name ≡ b → is_some (cond b (Some y) (find (λ (c : ClassOf N). is_same n c.name) ys)) ≡ false → (k : ℕ) → slice_get (class_names (y ∷ ys)) k ≡ Some n
          → (has_class is_same ys n ≡ false → (i : ℕ) → slice_get (class_names ys) i ≡ Some n → ⊥) → ⊥
      by true q g k f rest = true≢false g
      by false q g zero f rest = let same : y.name ≡ n = cc in true≢false (sym (reflexive n) ∙ ap (is_same n) (sym same) ∙ q)
      by false q g (suc k) f rest = rest g k f

  -- a class that is there stands among the classes
  pub there_stands : (cs : List (ClassOf N)) (n : N) → has_class is_same cs n ≡ true → stands_in is_same n cs ≡ true
  there_stands [] n h = absurd (true≢false (sym h))
  there_stands (y ∷ ys) n h = by (is_same n y.name) h (there_stands ys n)
    where
      by : (b : Bool) → is_some (cond b (Some y) (find (λ (c : ClassOf N). is_same n c.name) ys)) ≡ true → (has_class is_same ys n ≡ true → stands_in is_same n ys ≡ true) → (b || stands_in is_same n ys) ≡ true
      by true g rest = refl
      by false g rest = rest g

  pub names_changed : (n : N) (f : ClassOf N → ClassOf N) → ((c : ClassOf N) → (f c).name ≡ c.name) → (cs : List (ClassOf N)) → class_names (changed_class is_same n f cs) ≡ class_names cs
  names_changed n f keeps [] = refl
  names_changed n f keeps (c ∷ cs) = by (is_same n c.name) (names_changed n f keeps cs)
    where
      by : (b : Bool) → class_names (changed_class is_same n f cs) ≡ class_names cs → (if b then f c else c).name ∷ class_names (changed_class is_same n f cs) ≡ c.name ∷ class_names cs
      by true h = ap (λ t. t ∷ class_names (changed_class is_same n f cs)) (keeps c) ∙ ap (λ ts. c.name ∷ ts) h
      by false h = ap (λ ts. c.name ∷ ts) h

  -- classes without one that has no subclass are taken in turn
  pub turn_without : (n : N) (seen taken rest : List (ClassOf N)) → ((s : N) → stands_in is_same s seen ≡ true → is_same n s ≡ false → stands_in is_same s taken ≡ true) → IsTakenInTurn is_same seen rest
      → AllByRecursion (λ (c : ClassOf N). option_map_or (is_same n) c.superclass false ≡ false) rest → IsTakenInTurn is_same taken (filter (λ (c : ClassOf N). not (is_same n c.name)) rest)
  turn_without n seen taken [] cov turn none = tt
  turn_without n seen taken (x ∷ xs) cov turn none = by (is_same n x.name) refl (λ t c. turn_without n (seen ++ x ∷ []) t xs c turn.1 none.1)
    where
      by : (b : Bool) → is_same n x.name ≡ b → ((t : List (ClassOf N)) → ((s : N) → stands_in is_same s (seen ++ x ∷ []) ≡ true → is_same n s ≡ false → stands_in is_same s t ≡ true) → IsTakenInTurn is_same t (filter (λ (c : ClassOf N). not (is_same n c.name)) xs))
          → IsTakenInTurn is_same taken (cond (not b) (x ∷ filter (λ (c : ClassOf N). not (is_same n c.name)) xs) (filter (λ (c : ClassOf N). not (is_same n c.name)) xs))
      by true e next = next taken (λ s h f. at s f (stands_either is_same reflexive equal s seen (x ∷ []) h))
        where
          at : (s : N) → is_same n s ≡ false → (stands_in is_same s seen ≡ true) ⊎ (stands_in is_same s (x ∷ []) ≡ true) → stands_in is_same s taken ≡ true
          at s f (inl k) = cov s k f
          at s f (inr k) = absurd (true≢false (sym e ∙ ap (is_same n) (sym (stands_alone is_same reflexive equal s x k)) ∙ f))
      by false e next = (
        follows_more is_same reflexive equal seen taken x (λ s q h. cov s h (ap (λ o. option_map_or (is_same n) o false) (sym q) ∙ none.0)) turn.0,
        next (taken ++ x ∷ []) (λ s h f. at s f (stands_either is_same reflexive equal s seen (x ∷ []) h)),
      )
        where
          at : (s : N) → is_same n s ≡ false → (stands_in is_same s seen ≡ true) ⊎ (stands_in is_same s (x ∷ []) ≡ true) → stands_in is_same s (taken ++ x ∷ []) ≡ true
          at s f (inl k) = stands_left is_same reflexive equal s taken (x ∷ []) (cov s k f)
          at s f (inr k) = stands_right is_same reflexive equal s taken (x ∷ []) k
