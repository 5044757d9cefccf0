-- The items that stay are in one order in both lists.
use Rattle.std.proofs.Common.{◌≡◌, ◌⊎◌, inl, inr, ℕ, zero, suc, Bool, true, false, cond, List, [], ◌∷◌, filter, Option, Some, None, slice_get, refl, ap, sym, subst, ◌∙◌, true≢false}
use Rattle.std.specs.Prelude.{◌&&◌, ◌||◌, ◌==◌, if◌then◌else◌}
use Rattle.std.specs.List.{list_any}
use Rattle.std.specs.Option.{option_map}
use Rattle.std.proofs.lemmas.Bool.{eqb-true, eq-eqb, and_parts}
use Rattle.change_model.specs.Differs.{is_among, in_both, place_of, is_one_place, stays}
use Rattle.change_laws.specs.Merged.{Has, AreApart}
use Rattle.change_laws.proofs.Placing.{all_has, all_from}

-- a place is one with itself, and with no other
one_place_back : (j k : Option ℕ) → is_one_place j k ≡ is_one_place k j
one_place_back None None = refl
one_place_back None (Some k) = refl
one_place_back (Some j) None = refl
one_place_back (Some j) (Some k) = by (j == k) (k == j) refl refl
  where
    by : (a b : Bool) → (j == k) ≡ a → (k == j) ≡ b → a ≡ b
    by true true e f = refl
    by false false e f = refl
    by true false e f = absurd (true≢false (sym (eq-eqb k j (sym (eqb-true j k e))) ∙ f))
    by false true e f = absurd (true≢false (sym (eq-eqb j k (sym (eqb-true k j f))) ∙ e))

pub one_place_is : (n : ℕ) (k : Option ℕ) → is_one_place (Some n) k ≡ true → k ≡ Some n
one_place_is n None h = absurd (true≢false (sym h))
one_place_is n (Some k) h = ap Some (sym (eqb-true n k h))

module _ {X : Type 0} where
  -- items that are found
  pub record Found (p : X → Bool) (xs : List X) : Type 0 where
    pub item : X
    pub there : Has item xs
    pub passes : p item ≡ true

  pub found : (p : X → Bool) (xs : List X) → list_any p xs ≡ true → Found p xs
  found p [] h = absurd (true≢false (sym h))
  found p (x ∷ xs) h = by (p x) refl h (λ k. found p xs k)
    where
      by : (b : Bool) → p x ≡ b → (b || list_any p xs) ≡ true → (list_any p xs ≡ true → Found p xs) → Found p (x ∷ xs)
      by true e k rest = record { item = x; there = inl refl; passes = e }
      by false e k rest = let f = rest k in record { item = f.item; there = inr f.there; passes = f.passes }

  pub any_has : (p : X → Bool) (xs : List X) (z : X) → Has z xs → p z ≡ true → list_any p xs ≡ true
  any_has p [] z h e = absurd h
  any_has p (x ∷ xs) z (inl s) e = ap (λ (b : Bool). b || list_any p xs) (ap p (sym s) ∙ e)
  any_has p (x ∷ xs) z (inr h) e = by (p x) (any_has p xs z h e)
    where
      by : (b : Bool) → list_any p xs ≡ true → (b || list_any p xs) ≡ true
      by true k = refl
      by false k = k

  -- items that pass
  pub has_filter : (p : X → Bool) (xs : List X) (z : X) → Has z xs → p z ≡ true → Has z (filter p xs)
  has_filter p [] z h e = absurd h
  has_filter p (x ∷ xs) z h e = by (p x) refl h (λ k. has_filter p xs z k e)
    where
      by : (b : Bool) → p x ≡ b → (z ≡ x) ⊎ Has z xs → (Has z xs → Has z (filter p xs)) → Has z (cond b (x ∷ filter p xs) (filter p xs))
      by true f (inl s) rest = inl s
      by true f (inr k) rest = inr (rest k)
      by false f (inl s) rest = absurd (true≢false (sym e ∙ ap p s ∙ f))
      by false f (inr k) rest = rest k

  pub record Passes (p : X → Bool) (xs : List X) (z : X) : Type 0 where
    pub there : Has z xs
    pub passes : p z ≡ true

  pub filter_has : (p : X → Bool) (xs : List X) (z : X) → Has z (filter p xs) → Passes p xs z
  filter_has p [] z h = absurd h
  filter_has p (x ∷ xs) z h = by (p x) refl h (λ k. filter_has p xs z k)
    where
      more : Passes p xs z → Passes p (x ∷ xs) z
      more f = record { there = inr f.there; passes = f.passes }

      by : (b : Bool) → p x ≡ b → Has z (cond b (x ∷ filter p xs) (filter p xs)) → (Has z (filter p xs) → Passes p xs z) → Passes p (x ∷ xs) z
      by true e (inl s) rest = record { there = inl s; passes = ap p s ∙ e }
      by true e (inr k) rest = more (rest k)
      by false e k rest = more (rest k)

  -- an item at a place is one of the list
  pub at_has : (xs : List X) (n : ℕ) (x : X) → slice_get xs n ≡ Some x → Has x xs
  at_has [] n x e = absurd (cc)
  at_has (y ∷ ys) zero x e = let one : y ≡ x = cc in inl (sym one)
  at_has (y ∷ ys) (suc n) x e = inr (at_has ys n x e)

  -- two tests one after the other
  pub filter_twice : (p q : X → Bool) (xs : List X) → ((z : X) → Has z xs → p z ≡ true → q z ≡ true) → filter p (filter q xs) ≡ filter p xs
  filter_twice p q [] f = refl
  filter_twice p q (x ∷ xs) f = by (q x) (p x) refl refl (filter_twice p q xs (λ z h. f z (inr h)))
    where
      by : (b a : Bool) → q x ≡ b → p x ≡ a → filter p (filter q xs) ≡ filter p xs → filter p (cond b (x ∷ filter q xs) (filter q xs)) ≡ cond a (x ∷ filter p xs) (filter p xs)
      by true true e g rest = (λ j. cond (g j) (x ∷ filter p (filter q xs)) (filter p (filter q xs))) ∙ ap (λ (ys : List X). x ∷ ys) rest
      by true false e g rest = (λ j. cond (g j) (x ∷ filter p (filter q xs)) (filter p (filter q xs))) ∙ rest
      by false true e g rest = absurd (true≢false (sym (f x (inl refl) g) ∙ e))
      by false false e g rest = rest

  -- no item passes
  pub none_pass : (p : X → Bool) (xs : List X) → ((z : X) → Has z xs → p z ≡ true → ⊥) → filter p xs ≡ []
  none_pass p [] f = refl
  none_pass p (x ∷ xs) f = by (p x) refl (none_pass p xs (λ z h. f z (inr h)))
    where
      by : (b : Bool) → p x ≡ b → filter p xs ≡ [] → cond b (x ∷ filter p xs) (filter p xs) ≡ []
      by true e rest = absurd (f x (inl refl) e)
      by false e rest = rest

  -- the same items of two lists pass, each at the same place
  in_step : (p q : X → Bool) (xs ys : List X) → ((n : ℕ) (x : X) → slice_get xs n ≡ Some x → p x ≡ true → slice_get ys n ≡ Some x) → ((n : ℕ) (y : X) → slice_get ys n ≡ Some y → q y ≡ true → slice_get xs n ≡ Some y)
      → ((n : ℕ) (x : X) → slice_get xs n ≡ Some x → slice_get ys n ≡ Some x → p x ≡ q x) → filter p xs ≡ filter q ys
  in_step p q [] [] f g h = refl
  in_step p q [] (y ∷ ys) f g h = sym (by (q y) refl (in_step p q [] ys (λ n x e k. absurd (cc)) (λ n z e k. absurd (gone n z e k)) (λ n x e k. absurd (cc))))
    where
      gone : (n : ℕ) (z : X) → slice_get ys n ≡ Some z → q z ≡ true → ⊥
      gone n z e k = let none : slice_get [] (suc n) ≡ Some z = g (suc n) z e k in cc

      by : (b : Bool) → q y ≡ b → [] ≡ filter q ys → cond b (y ∷ filter q ys) (filter q ys) ≡ []
      by true e rest = let none : slice_get [] 0 ≡ Some y = g 0 y refl e in absurd (cc)
      by false e rest = sym rest
  in_step p q (x ∷ xs) [] f g h = by (p x) refl (in_step p q xs [] (λ n z e k. absurd (gone n z e k)) (λ n z e k. absurd (cc)) (λ n z e k. absurd (cc)))
    where
      gone : (n : ℕ) (z : X) → slice_get xs n ≡ Some z → p z ≡ true → ⊥
      gone n z e k = let none : slice_get [] (suc n) ≡ Some z = f (suc n) z e k in cc

      by : (b : Bool) → p x ≡ b → filter p xs ≡ [] → cond b (x ∷ filter p xs) (filter p xs) ≡ []
      by true e rest = let none : slice_get [] 0 ≡ Some x = f 0 x refl e in absurd (cc)
      by false e rest = rest
  in_step p q (x ∷ xs) (y ∷ ys) f g h = by (p x) (q y) refl refl (in_step p q xs ys (λ n z e k. f (suc n) z e k) (λ n z e k. g (suc n) z e k) (λ n z e k. h (suc n) z e k))
    where
      by : (a b : Bool) → p x ≡ a → q y ≡ b → filter p xs ≡ filter q ys → cond a (x ∷ filter p xs) (filter p xs) ≡ cond b (y ∷ filter q ys) (filter q ys)
      by true true e k rest = let one : Some y ≡ Some x = f 0 x refl e in let same : y ≡ x = cc in λ j. sym same j ∷ rest j
      by true false e k rest =
          let one : Some y ≡ Some x = f 0 x refl e in let same : y ≡ x = cc in
          absurd (true≢false (sym e ∙ h 0 x refl one ∙ ap q (sym same) ∙ k))
      by false true e k rest =
          let one : Some x ≡ Some y = g 0 y refl k in let same : x ≡ y = cc in
          absurd (true≢false (sym k ∙ ap q (sym same) ∙ sym (h 0 x refl (ap Some (sym same))) ∙ e))
      by false false e k rest = rest

  -- the item at a place that is found
  pub record IsFoundAt (p : X → Bool) (xs : List X) (n : ℕ) : Type 0 where
    pub item : X
    pub at : slice_get xs n ≡ Some item
    pub passes : p item ≡ true

  pub place_found : (p : X → Bool) (xs : List X) (n : ℕ) → place_of p xs ≡ Some n → IsFoundAt p xs n
  place_found p [] n e = absurd (cc)
  place_found p (x ∷ xs) n e = by (p x) refl e (λ k f. place_found p xs k f)
    where
      later : (o : Option ℕ) → place_of p xs ≡ o → option_map suc o ≡ Some n → ((k : ℕ) → place_of p xs ≡ Some k → IsFoundAt p xs k) → IsFoundAt p (x ∷ xs) n
      later None g f rest = absurd (cc)
      later (Some k) g f rest =
          let i = rest k g in let number : suc k ≡ n = cc in
          subst (IsFoundAt p (x ∷ xs)) number (record { item = i.item; at = i.at; passes = i.passes })

      by : (b : Bool) → p x ≡ b → (if b then Some 0 else option_map suc (place_of p xs)) ≡ Some n → ((k : ℕ) → place_of p xs ≡ Some k → IsFoundAt p xs k) → IsFoundAt p (x ∷ xs) n
      by true g f rest = let number : 0 ≡ n = cc in subst (IsFoundAt p (x ∷ xs)) number (record { item = x; at = refl; passes = g })
      by false g f rest = later (place_of p xs) refl f rest

  module _ (alike : X → X → Bool) (itself : (x : X) → alike x x ≡ true) (back : (x y : X) → alike x y ≡ true → alike y x ≡ true) where
    -- the place of an item
    place_at : (xs : List X) (n : ℕ) (x : X) → AreApart alike xs → slice_get xs n ≡ Some x → place_of (alike x) xs ≡ Some n
    place_at [] n x apart e = absurd (cc)
    place_at (y ∷ ys) zero x apart e = let one : y ≡ x = cc in ap (λ (b : Bool). if b then Some 0 else option_map suc (place_of (alike x) ys)) (ap (alike x) one ∙ itself x)
    place_at (y ∷ ys) (suc n) x apart e = by (alike x y) refl (place_at ys n x apart.1 e)
      where
        by : (b : Bool) → alike x y ≡ b → place_of (alike x) ys ≡ Some n → (if b then Some 0 else option_map suc (place_of (alike x) ys)) ≡ Some (suc n)
        by true k rest = absurd (all_has (λ (z : X). alike y z ≡ true → ⊥) ys x apart.0 (at_has ys n x e) (back x y k))
        by false k rest = ap (option_map suc) rest

    -- items of which no two are alike
    pub apart_filter : (p : X → Bool) (xs : List X) → AreApart alike xs → AreApart alike (filter p xs)
    apart_filter p [] apart = tt
    apart_filter p (x ∷ xs) apart = by (p x) (apart_filter p xs apart.1)
      where
        by : (b : Bool) → AreApart alike (filter p xs) → AreApart alike (cond b (x ∷ filter p xs) (filter p xs))
        by true rest = (all_from (λ (y : X). alike x y ≡ true → ⊥) (filter p xs) (λ z h. all_has (λ (y : X). alike x y ≡ true → ⊥) xs z apart.0 (filter_has p xs z h).there), rest)
        by false rest = rest

    pub one_alike : (xs : List X) (x y : X) → AreApart alike xs → Has x xs → Has y xs → alike x y ≡ true → x ≡ y
    one_alike [] x y apart h k e = absurd h
    one_alike (z ∷ zs) x y apart (inl h) (inl k) e = h ∙ sym k
    one_alike (z ∷ zs) x y apart (inl h) (inr k) e = absurd (all_has (λ (w : X). alike z w ≡ true → ⊥) zs y apart.0 k (ap (λ (w : X). alike w y) (sym h) ∙ e))
    one_alike (z ∷ zs) x y apart (inr h) (inl k) e = absurd (all_has (λ (w : X). alike z w ≡ true → ⊥) zs x apart.0 h (ap (λ (w : X). alike w x) (sym k) ∙ back x y e))
    one_alike (z ∷ zs) x y apart (inr h) (inr k) e = one_alike zs x y apart.1 h k e

    module _ (equal : X → X → Bool) (equal_itself : (x : X) → equal x x ≡ true) (equal_alike : (x y : X) → equal x y ≡ true → alike x y ≡ true) where
      -- in both lists, and equal there
      pub both_same : (xs ys : List X) (x : X) → Has x xs → Has x ys → stays alike equal xs ys x ≡ stays alike equal ys xs x
      both_same xs ys x h k =
          let a = place_of (alike x) (in_both alike xs ys) in
          let b = place_of (alike x) (in_both alike ys xs) in
          (λ j. any_has (equal x) ys x k (equal_itself x) j && is_one_place a b)
          ∙ one_place_back a b
          ∙ (λ j. sym (any_has (equal x) xs x h (equal_itself x)) j && is_one_place b a)

      -- what stays is in the other list
      pub stays_there : (xs ys : List X) (x : X) → ((y : X) → Has y ys → equal x y ≡ true → x ≡ y) → stays alike equal xs ys x ≡ true → Has x ys
      stays_there xs ys x one h =
          let parts = and_parts (is_among equal ys x) (is_one_place (place_of (alike x) (in_both alike xs ys)) (place_of (alike x) (in_both alike ys xs))) h in
          let f = found (equal x) ys parts.0 in
          subst (λ (z : X). Has z ys) (sym (one f.item f.there f.passes)) f.there

      -- and at its place
      stays_at : (xs ys : List X) (n : ℕ) (x : X) → AreApart alike xs → AreApart alike ys → ((x y : X) → Has x xs → Has y ys → equal x y ≡ true → x ≡ y) → slice_get (in_both alike xs ys) n ≡ Some x → stays alike equal xs ys x ≡ true → slice_get (in_both alike ys xs) n ≡ Some x
      stays_at xs ys n x apart apart' one e h =
          let parts = and_parts (is_among equal ys x) (is_one_place (place_of (alike x) (in_both alike xs ys)) (place_of (alike x) (in_both alike ys xs))) h in
          let inside = filter_has (is_among alike ys) xs x (at_has (in_both alike xs ys) n x e) in
          let there : Has x ys = stays_there xs ys x (λ y k. one x y inside.there k) h in
          let mine : place_of (alike x) (in_both alike xs ys) ≡ Some n = place_at (in_both alike xs ys) n x (apart_filter (is_among alike ys) xs apart) e in
          let its : place_of (alike x) (in_both alike ys xs) ≡ Some n = one_place_is n (place_of (alike x) (in_both alike ys xs)) (ap (λ (o : Option ℕ). is_one_place o (place_of (alike x) (in_both alike ys xs))) (sym mine) ∙ parts.1) in
          let f = place_found (alike x) (in_both alike ys xs) n its in
          let listed : Has x (in_both alike ys xs) = has_filter (is_among alike xs) ys x there (any_has (alike x) xs x inside.there (itself x)) in
          let same : x ≡ f.item = one_alike (in_both alike ys xs) x f.item (apart_filter (is_among alike xs) ys apart') listed (at_has (in_both alike ys xs) n f.item f.at) f.passes in
          f.at ∙ ap Some (sym same)

      -- the items that stay are in one order
      pub one_order : (xs ys : List X) → AreApart alike xs → AreApart alike ys → ((x y : X) → Has x xs → Has y ys → equal x y ≡ true → x ≡ y) → ((x y : X) → Has x xs → Has y ys → equal y x ≡ true → y ≡ x)
          → filter (stays alike equal xs ys) xs ≡ filter (stays alike equal ys xs) ys
      one_order xs ys apart apart' one two =
          sym (filter_twice (stays alike equal xs ys) (is_among alike ys) xs (λ z h k. any_has (alike z) ys z (stays_there xs ys z (λ y l. one z y h l) k) (itself z)))
          ∙ in_step (stays alike equal xs ys) (stays alike equal ys xs) (in_both alike xs ys) (in_both alike ys xs)
          (λ n x e k. stays_at xs ys n x apart apart' one e k)
          (λ n y e k. stays_at ys xs n y apart' apart (λ y x h l. two x y l h) e k)
          (λ n x e f. both_same xs ys x (filter_has (is_among alike ys) xs x (at_has (in_both alike xs ys) n x e)).there (filter_has (is_among alike xs) ys x (at_has (in_both alike ys xs) n x f)).there)
          ∙ filter_twice (stays alike equal ys xs) (is_among alike xs) ys (λ z h k. any_has (alike z) xs z (stays_there ys xs z (λ x l. two x z l h) k) (itself z))
