-- Finite maps as lists of entries.
use Rattle.std.proofs.Common.{◌≡◌, List, [], ◌∷◌, ◌++◌, Some, None, refl, sym, ap, ◌∙◌}
use Rattle.std.specs.Prelude.{Bool, true, false, ◌&&◌, ◌||◌, cond, map, flat_map, find, option_map, unwrap_or}
use Rattle.std.specs.List.{list_any}
use Rattle.std.proofs.lemmas.Bool.{false≢true}
use Rattle.std.proofs.lemmas.List.Folds.{list_any-append}
use Rattle.run_model.specs.Renamings.{entry, mapped, keys, entries_for}

-- by whether a test holds
pub by_cases : {P : Type 0} (b : Bool) → (b ≡ true → P) → (b ≡ false → P) → P
by_cases true p q = p refl
by_cases false p q = q refl

-- the first of two alternatives of which none holds
or-left : (a b : Bool) → (a || b) ≡ false → a ≡ false
or-left true b e = e
or-left false b e = refl

-- the second
or-right : (a b : Bool) → (a || b) ≡ false → b ≡ false
or-right true b e = absurd (false≢true (sym e))
or-right false b e = e

-- true with anything
or-true_right : (a b : Bool) → b ≡ true → (a || b) ≡ true
or-true_right true b e = refl
or-true_right false b e = e

-- both
pub and-true_both : (a b : Bool) → a ≡ true → b ≡ true → (a && b) ≡ true
and-true_both true b p q = q
and-true_both false b p q = p

-- the first of two that hold
pub and-true_left : (a b : Bool) → (a && b) ≡ true → a ≡ true
and-true_left true b e = refl
and-true_left false b e = e

-- the second
pub and-true_right : (a b : Bool) → (a && b) ≡ true → b ≡ true
and-true_right true b e = e
and-true_right false b e = absurd (false≢true e)

-- none in the first part
pub any-left : {X : Type 0} (p : X → Bool) (xs ys : List X) → list_any p (xs ++ ys) ≡ false → list_any p xs ≡ false
any-left p xs ys e = or-left _ (list_any p ys) (sym (list_any-append p xs ys) ∙ e)

-- none in the second part
pub any-right : {X : Type 0} (p : X → Bool) (xs ys : List X) → list_any p (xs ++ ys) ≡ false → list_any p ys ≡ false
any-right p xs ys e = or-right (list_any p xs) _ (sym (list_any-append p xs ys) ∙ e)

-- one in the second part
any-append_right : {X : Type 0} (p : X → Bool) (xs ys : List X) → list_any p ys ≡ true → list_any p (xs ++ ys) ≡ true
any-append_right p xs ys e = list_any-append p xs ys ∙ or-true_right (list_any p xs) _ e

-- one in the first part
any-append_left : {X : Type 0} (p : X → Bool) (xs ys : List X) → list_any p xs ≡ true → list_any p (xs ++ ys) ≡ true
any-append_left p xs ys e = list_any-append p xs ys ∙ ap (λ b. b || list_any p ys) e

-- one among what a function gives
pub any-map : {X Y : Type 0} (p : X → Bool) (q : Y → Bool) (f : X → Y) → ((x : X) → p x ≡ true → q (f x) ≡ true) → (xs : List X) → list_any p xs ≡ true → list_any q (map f xs) ≡ true
any-map p q f h [] e = e
any-map p q f h (x ∷ xs) e =
    by_cases (p x) (λ t. ap (λ b. b || list_any q (map f xs)) (h x t))
    (λ t. or-true_right (q (f x)) _ (any-map p q f h xs (sym (ap (λ b. b || list_any p xs) t) ∙ e)))

-- one among the lists that a function gives
pub any-flat_map : {X Y : Type 0} (p : X → Bool) (q : Y → Bool) (f : X → List Y) → ((x : X) → p x ≡ true → list_any q (f x) ≡ true) → (xs : List X) → list_any p xs ≡ true → list_any q (flat_map f xs) ≡ true
any-flat_map p q f h [] e = e
any-flat_map p q f h (x ∷ xs) e =
    by_cases (p x) (λ t. any-append_left q (f x) (flat_map f xs) (h x t))
    (λ t. any-append_right q (f x) (flat_map f xs) (any-flat_map p q f h xs (sym (ap (λ b. b || list_any p xs) t) ∙ e)))

module _ {K V : Type 0} (same : K → K → Bool) where
  -- a map without a key has no entry for it
  pub entry-absent : (es : List (K × V)) (k : K) → list_any (same k) (keys es) ≡ false → entry same es k ≡ None
  entry-absent [] k e = refl
  entry-absent (x ∷ es) k e =
      ap (λ b. option_map (λ y. y.1) (cond b (Some x) (find (λ y. same k y.0) es))) (or-left (same k x.0) _ e) ∙ entry-absent es k (or-right (same k x.0) _ e)

  -- the entries for keys give what the function gives, if it gives the other value where there is no key
  pub mapped-for : (f : K → V) (ks : List K) (k : K) (d : V) → ((j : K) → same k j ≡ true → k ≡ j) → (list_any (same k) ks ≡ false → f k ≡ d) → mapped same (entries_for f ks) k d ≡ f k
  mapped-for f [] k d eq h = sym (h refl)
  mapped-for f (j ∷ ks) k d eq h =
      by_cases (same k j)
      (λ t. ap (λ b. unwrap_or (option_map (λ y. y.1) (cond b (Some (j, f j)) (find (λ y. same k y.0) (entries_for f ks)))) d) t ∙ ap f (sym (eq j t)))
      (λ t. ap (λ b. unwrap_or (option_map (λ y. y.1) (cond b (Some (j, f j)) (find (λ y. same k y.0) (entries_for f ks)))) d) t
      ∙ mapped-for f ks k d eq (λ e. h (ap (λ b. b || list_any (same k) ks) t ∙ e)))

  -- a key without an entry is mapped to what is said
  pub mapped-absent : (es : List (K × V)) (k : K) (d : V) → list_any (same k) (keys es) ≡ false → mapped same es k d ≡ d
  mapped-absent es k d e = ap (λ o. unwrap_or o d) (entry-absent es k e)
