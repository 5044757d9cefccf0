-- The items of one list that the other has, with those of the other that differ, come to be the other.
use Rattle.std.proofs.Common.{map, ◌≡◌, ◌⊎◌, inl, inr, ℕ, suc, ◌≤◌, Bool, true, false, cond, not, List, [], ◌∷◌, filter, Option, Some, None, refl, ap, sym, subst, ◌∙◌, arith, true≢false}
use Rattle.std.specs.Prelude.{if◌then◌else◌}
use Rattle.std.specs.Option.{option_map_or}
use Rattle.file_model.specs.Places.{PlacedOf, unplaced_items, put_again}
use Rattle.change_model.specs.Differs.{is_among, in_both, differing_from, stays}
use Rattle.change_laws.specs.Merged.{with_items, item_of, Has, AreApart, place_after, brought}
use Rattle.change_laws.proofs.Placing.{all_has, all_from}
use Rattle.change_laws.proofs.Orders.{Found, found, any_has, has_filter, filter_has, filter_twice, apart_filter, one_alike, both_same, stays_there, one_order}
use Rattle.change_laws.proofs.Puts.{IsReady, PlacedWhere, IsPlacedWhere, is_where, comes_out}

-- two tests are equal where each is true if the other is
same_test : (a b : Bool) → (a ≡ true → b ≡ true) → (b ≡ true → a ≡ true) → a ≡ b
same_test true true f g = refl
same_test true false f g = sym (f refl)
same_test false true f g = g refl
same_test false false f g = refl

-- the places of items that differ are counted from the number
pub its_place : {X : Type 0} (stay : X → Bool) (k : ℕ) (ys : List X) (p : PlacedOf X) → Has p (differing_from k stay ys) → k ≤ p.place
its_place stay k [] p h = absurd h
its_place stay k (y ∷ ys) p h = by (stay y) h (λ i. its_place stay (suc k) ys p i)
  where
    by : (b : Bool) → Has p (if b then differing_from (suc k) stay ys else record { place = k; item = y } ∷ differing_from (suc k) stay ys) → (Has p (differing_from (suc k) stay ys) → suc k ≤ p.place) → k ≤ p.place
    by true i rest = omega (arith, rest i)
    by false (inl e) rest = let at : p.place ≡ k = ap (λ (q : PlacedOf _). q.place) e in omega (arith, at)
    by false (inr i) rest = omega (arith, rest i)

module _ {X : Type 0} (alike : X → X → Bool) (itself : (x : X) → alike x x ≡ true) (back : (x y : X) → alike x y ≡ true → alike y x ≡ true) (through : (x y z : X) → alike x y ≡ true → alike y z ≡ true → alike x z ≡ true) where
  -- items that are alike have one place
  respects_after : (ps : List (PlacedOf X)) (f : X → Option ℕ) → ((x y : X) → alike x y ≡ true → f x ≡ f y) → (x y : X) → alike x y ≡ true → place_after alike ps f x ≡ place_after alike ps f y
  respects_after [] f h x y e = h x y e
  respects_after (p ∷ ps) f h x y e = respects_after ps (λ z. if alike p.item z then Some p.place else f z) both x y e
    where
      both : (x y : X) → alike x y ≡ true → (if alike p.item x then Some p.place else f x) ≡ (if alike p.item y then Some p.place else f y)
      both x y e = (λ j. if same_test (alike p.item x) (alike p.item y) (λ k. through p.item x y k e) (λ k. through p.item y x k (back x y e)) j then Some p.place else h x y e j)

  -- places of others do not matter
  outside : (ps : List (PlacedOf X)) (f : X → Option ℕ) (x : X) → ((p : PlacedOf X) → Has p ps → alike p.item x ≡ true → ⊥) → place_after alike ps f x ≡ f x
  outside [] f x other = refl
  outside (p ∷ ps) f x other = outside ps (λ z. if alike p.item z then Some p.place else f z) x (λ q h. other q (inr h)) ∙ by (alike p.item x) refl
    where
      by : (b : Bool) → alike p.item x ≡ b → (if b then Some p.place else f x) ≡ f x
      by true e = absurd (other p (inl refl) e)
      by false e = refl

  pub its_item : (stay : X → Bool) (k : ℕ) (ys : List X) (p : PlacedOf X) → Has p (differing_from k stay ys) → Has p.item ys
  its_item stay k [] p h = absurd h
  its_item stay k (y ∷ ys) p h = by (stay y) h (λ i. its_item stay (suc k) ys p i)
    where
      by : (b : Bool) → Has p (if b then differing_from (suc k) stay ys else record { place = k; item = y } ∷ differing_from (suc k) stay ys) → (Has p (differing_from (suc k) stay ys) → Has p.item ys) → Has p.item (y ∷ ys)
      by true i rest = inr (rest i)
      by false (inl e) rest = inl (ap (λ (q : PlacedOf X). q.item) e)
      by false (inr i) rest = inr (rest i)

  abbrev listed_next : (stay : X → Bool) (k : ℕ) (y : X) (ys : List X) → Bool → List (PlacedOf X)
  listed_next stay k y ys b = if b then differing_from (suc (suc k)) stay ys else record { place = suc k; item = y } ∷ differing_from (suc (suc k)) stay ys

  -- the places that are stated for the items that differ
  placed_after : (stay : X → Bool) (k : ℕ) (f : X → Option ℕ) (ys : List X) → AreApart alike ys → ((y : X) → Has y ys → f y ≡ None) → PlacedWhere alike itself back through stay (place_after alike (differing_from (suc k) stay ys) f) k ys
  placed_after stay k f [] apart none = tt
  placed_after stay k f (y ∷ ys) apart none =
      by (stay y) refl
      (placed_after stay (suc k) f ys apart.1 (λ z h. none z (inr h)))
      (placed_after stay (suc k) (λ z. if alike y z then Some (suc k) else f z) ys apart.1 later)
    where
      later : (z : X) → Has z ys → (if alike y z then Some (suc k) else f z) ≡ None
      later z h = at (alike y z) refl
        where
          at : (b : Bool) → alike y z ≡ b → (if b then Some (suc k) else f z) ≡ None
          at true e = absurd (all_has (λ (w : X). alike y w ≡ true → ⊥) ys z apart.0 h e)
          at false e = none z (inr h)

      others : (p : PlacedOf X) → Has p (differing_from (suc (suc k)) stay ys) → alike p.item y ≡ true → ⊥
      others p h e = all_has (λ (w : X). alike y w ≡ true → ⊥) ys p.item apart.0 (its_item stay (suc (suc k)) ys p h) (back p.item y e)

      by : (b : Bool) → stay y ≡ b → PlacedWhere alike itself back through stay (place_after alike (differing_from (suc (suc k)) stay ys) f) (suc k) ys
          → PlacedWhere alike itself back through stay (place_after alike (differing_from (suc (suc k)) stay ys) (λ z. if alike y z then Some (suc k) else f z)) (suc k) ys
          → (((stay y ≡ true) × (place_after alike (listed_next stay k y ys b) f y ≡ None)) ⊎ ((stay y ≡ false) × (place_after alike (listed_next stay k y ys b) f y ≡ Some (suc k)))) × PlacedWhere alike itself back through stay (place_after alike (listed_next stay k y ys b) f) (suc k) ys
      by true e one two = (inl (e, outside (differing_from (suc (suc k)) stay ys) f y others ∙ none y (inl refl)), one)
      by false e one two =
          (inr (e, outside (differing_from (suc (suc k)) stay ys) (λ z. if alike y z then Some (suc k) else f z) y others ∙ ap (λ (b : Bool). if b then Some (suc k) else f y) (itself y)), two)

  -- the items without places
  unplaced_filter : (p : X → Bool) (place : X → Option ℕ) (xs : List X) → ((z : X) → Has z xs → IsPlacedWhere alike itself back through p place z) → unplaced_items place xs ≡ filter p xs
  unplaced_filter p place [] at = refl
  unplaced_filter p place (x ∷ xs) at = by (at x (inl refl)) (unplaced_filter p place xs (λ z h. at z (inr h)))
    where
      by : IsPlacedWhere alike itself back through p place x → unplaced_items place xs ≡ filter p xs → option_map_or (λ n. unplaced_items place xs) (place x) (x ∷ unplaced_items place xs) ≡ cond (p x) (x ∷ filter p xs) (filter p xs)
      by (inl q) rest = ap (λ (o : Option ℕ). option_map_or (λ n. unplaced_items place xs) o (x ∷ unplaced_items place xs)) q.1 ∙ ap (λ (zs : List X). x ∷ zs) rest ∙ ap (λ (b : Bool). cond b (x ∷ filter p xs) (filter p xs)) (sym q.0)
      by (inr q) rest = ap (λ (o : Option ℕ). option_map_or (λ n. unplaced_items place xs) o (x ∷ unplaced_items place xs)) q.1.1 ∙ rest ∙ ap (λ (b : Bool). cond b (x ∷ filter p xs) (filter p xs)) (sym q.0)

  module _ (equal : X → X → Bool) (equal_itself : (x : X) → equal x x ≡ true) (equal_alike : (x y : X) → equal x y ≡ true → alike x y ≡ true) (xs ys : List X) (apart : AreApart alike xs) (apart' : AreApart alike ys)
      (one : (x y : X) → Has x xs → Has y ys → equal x y ≡ true → x ≡ y) (two : (x y : X) → Has x xs → Has y ys → equal y x ≡ true → y ≡ x) where
    in_xs : (y : X) → Has y ys → stays alike equal ys xs y ≡ true → Has y xs
    in_xs y h s = stays_there alike itself back equal equal_itself equal_alike ys xs y (λ x l. two x y l h) s

    same : (z y : X) → Has z xs → Has y ys → alike z y ≡ true → stays alike equal ys xs y ≡ true → z ≡ y
    same z y h k e s = one_alike alike itself back xs z y apart h (in_xs y k s) e

    mine : (place : X → Option ℕ) → ((x y : X) → alike x y ≡ true → place x ≡ place y) → PlacedWhere alike itself back through (stays alike equal ys xs) place 0 ys → (z : X) → Has z (in_both alike xs ys) → IsPlacedWhere alike itself back through (stays alike equal xs ys) place z
    mine place respects at z h = let f = filter_has (is_among alike ys) xs z h in let g = found (alike z) ys f.passes in by f.there g (is_where alike itself back through (stays alike equal ys xs) place 0 ys at g.item g.there)
      where
        by : Has z xs → (g : Found (alike z) ys) → IsPlacedWhere alike itself back through (stays alike equal ys xs) place g.item → IsPlacedWhere alike itself back through (stays alike equal xs ys) place z
        by k g (inl q) =
            let s : z ≡ g.item = same z g.item k g.there g.passes q.0 in
            let in_ys : Has z ys = subst (λ (w : X). Has w ys) (sym s) g.there in
            inl (both_same alike itself back equal equal_itself equal_alike xs ys z k in_ys ∙ ap (stays alike equal ys xs) s ∙ q.0, respects z g.item g.passes ∙ q.1)
        by k g (inr q) = inr (not_so (stays alike equal xs ys z) refl, (q.1.0, respects z g.item g.passes ∙ q.1.1))
          where
            not_so : (b : Bool) → stays alike equal xs ys z ≡ b → b ≡ false
            not_so false e = refl
            not_so true e =
                let in_ys : Has z ys = stays_there alike itself back equal equal_itself equal_alike xs ys z (λ y l. one z y k l) e in
                let s : z ≡ g.item = one_alike alike itself back ys z g.item apart' in_ys g.there g.passes in
                absurd (true≢false (sym e ∙ both_same alike itself back equal equal_itself equal_alike xs ys z k in_ys ∙ ap (stays alike equal ys xs) s ∙ q.0))

    -- those that both have are ready
    ready : (place : X → Option ℕ) → ((x y : X) → alike x y ≡ true → place x ≡ place y) → PlacedWhere alike itself back through (stays alike equal ys xs) place 0 ys → IsReady alike itself back through (stays alike equal ys xs) place (in_both alike xs ys) ys
    ready place respects at = record {
      apart = apart_filter alike itself back (is_among alike ys) xs apart;
      known = λ z h. (filter_has (is_among alike ys) xs z h).passes;
      same = λ z y h k e s. same z y (filter_has (is_among alike ys) xs z h).there k e s;
      there = λ y h s. let k = in_xs y h s in has_filter (is_among alike ys) xs y k (any_has (alike y) ys y h (itself y));
      order = unplaced_filter (stays alike equal xs ys) place (in_both alike xs ys) (mine place respects at)
          ∙ filter_twice (stays alike equal xs ys) (is_among alike ys) xs (λ z h k. any_has (alike z) ys z (stays_there alike itself back equal equal_itself equal_alike xs ys z (λ y l. one z y h l) k) (itself z))
          ∙ one_order alike itself back equal equal_itself equal_alike xs ys apart apart' one two
          ∙ sym (unplaced_filter (stays alike equal ys xs) place ys (is_where alike itself back through (stays alike equal ys xs) place 0 ys at));
    }

    -- the same where those that do not stay are changed first, but for their names
    module _ (clear : X → X) (keeps : (x : X) → alike (clear x) x ≡ true) (leaves : (x : X) → stays alike equal xs ys x ≡ true → clear x ≡ x) where
      record FromBoth (w : X) (zs : List X) : Type 0 where
        item : X
        there : Has item zs
        is : w ≡ clear item

      from : (w : X) (zs : List X) → Has w (map clear zs) → FromBoth w zs
      from w [] h = absurd h
      from w (z ∷ zs) (inl e) = record { item = z; there = inl refl; is = e }
      from w (z ∷ zs) (inr h) = let f = from w zs h in record { item = f.item; there = inr f.there; is = f.is }

      to : (z : X) (zs : List X) → Has z zs → Has (clear z) (map clear zs)
      to z [] h = absurd h
      to z (x ∷ zs) (inl e) = inl (ap clear e)
      to z (x ∷ zs) (inr h) = inr (to z zs h)

      apart_clear : (zs : List X) → AreApart alike zs → AreApart alike (map clear zs)
      apart_clear [] a = tt
      apart_clear (z ∷ zs) a = (all_from (λ (w : X). alike (clear z) w ≡ true → ⊥) (map clear zs) other, apart_clear zs a.1)
        where
          other : (w : X) → Has w (map clear zs) → alike (clear z) w ≡ true → ⊥
          other w h e =
              let f = from w zs h in
              let one : alike z w ≡ true = through z (clear z) w (back (clear z) z (keeps z)) e in
              let two : alike w f.item ≡ true = ap (λ (v : X). alike v f.item) f.is ∙ keeps f.item in
              all_has (λ (v : X). alike z v ≡ true → ⊥) zs f.item a.0 f.there (through z w f.item one two)

      unplaced_clear : (place : X → Option ℕ) → ((x y : X) → alike x y ≡ true → place x ≡ place y) → (zs : List X) → ((z : X) → Has z zs → IsPlacedWhere alike itself back through (stays alike equal xs ys) place z) → unplaced_items place (map clear zs) ≡ unplaced_items place zs
      unplaced_clear place respects [] at = refl
      unplaced_clear place respects (z ∷ zs) at = by (at z (inl refl)) (unplaced_clear place respects zs (λ x h. at x (inr h)))
        where
          by : IsPlacedWhere alike itself back through (stays alike equal xs ys) place z → unplaced_items place (map clear zs) ≡ unplaced_items place zs
              → option_map_or (λ n. unplaced_items place (map clear zs)) (place (clear z)) (clear z ∷ unplaced_items place (map clear zs)) ≡ option_map_or (λ n. unplaced_items place zs) (place z) (z ∷ unplaced_items place zs)
          by (inl q) rest = λ j. option_map_or (λ n. rest j) (respects (clear z) z (keeps z) j) (leaves z q.0 j ∷ rest j)
          by (inr q) rest =
              ap (λ (o : Option ℕ). option_map_or (λ n. unplaced_items place (map clear zs)) o (clear z ∷ unplaced_items place (map clear zs))) (respects (clear z) z (keeps z) ∙ q.1.1)
              ∙ rest
              ∙ sym (ap (λ (o : Option ℕ). option_map_or (λ n. unplaced_items place zs) o (z ∷ unplaced_items place zs)) q.1.1)

      pub brings_cleared : put_again (place_after alike (differing_from 1 (stays alike equal ys xs) ys) (λ x. None)) (with_items alike (map item_of (differing_from 1 (stays alike equal ys xs) ys)) (map clear (in_both alike xs ys))) ≡ ys
      brings_cleared =
          let stay = stays alike equal ys xs in
          let place = place_after alike (differing_from 1 stay ys) (λ x. None) in
          let respects = respects_after (differing_from 1 stay ys) (λ x. None) (λ x y e. refl) in
          let at = placed_after stay 0 (λ x. None) ys apart' (λ y h. refl) in
          let r = ready place respects at in
          comes_out alike itself back through stay place respects (map clear (in_both alike xs ys)) ys apart' at
          (record {
            apart = apart_clear (in_both alike xs ys) r.apart;
            known = λ w h. known_clear w (from w (in_both alike xs ys) h) r.known;
            same = λ w y h k e s. same_clear w y (from w (in_both alike xs ys) h) k e s;
            there = λ y h s. subst (λ (z : X). Has z (map clear (in_both alike xs ys))) (leaves y (stays_back y h s)) (to y (in_both alike xs ys) (r.there y h s));
            order = unplaced_clear place respects (in_both alike xs ys) (mine place respects at) ∙ r.order;
          })
          (λ p a. apart_filter alike itself back (λ y. not (stay y)) p a)
        where
          stays_back : (y : X) → Has y ys → stays alike equal ys xs y ≡ true → stays alike equal xs ys y ≡ true
          stays_back y h s = both_same alike itself back equal equal_itself equal_alike xs ys y (in_xs y h s) h ∙ s

          known_clear : (w : X) (f : FromBoth w (in_both alike xs ys)) → ((z : X) → Has z (in_both alike xs ys) → is_among alike ys z ≡ true) → is_among alike ys w ≡ true
          known_clear w f known =
              let g = found (alike f.item) ys (known f.item f.there) in
              any_has (alike w) ys g.item g.there (through w f.item g.item (ap (λ (v : X). alike v f.item) f.is ∙ keeps f.item) g.passes)

          same_clear : (w y : X) → FromBoth w (in_both alike xs ys) → Has y ys → alike w y ≡ true → stays alike equal ys xs y ≡ true → w ≡ y
          same_clear w y f k e s =
              let one : alike f.item w ≡ true = ap (alike f.item) f.is ∙ back (clear f.item) f.item (keeps f.item) in
              let it : f.item ≡ y = same f.item y (filter_has (is_among alike ys) xs f.item f.there).there k (through f.item w y one e) s in
              f.is ∙ ap clear it ∙ leaves y (stays_back y k s)

    -- with those that differ put in they come to be the other
    pub brings : brought alike equal xs ys ≡ ys
    brings =
        let stay = stays alike equal ys xs in
        let place = place_after alike (differing_from 1 stay ys) (λ x. None) in
        let respects = respects_after (differing_from 1 stay ys) (λ x. None) (λ x y e. refl) in
        let at = placed_after stay 0 (λ x. None) ys apart' (λ y h. refl) in
        comes_out alike itself back through stay place respects (in_both alike xs ys) ys apart' at (ready place respects at) (λ p a. apart_filter alike itself back (λ y. not (stay y)) p a)
