-- Items that are put in, one after the other, in place of those that are alike.
use Rattle.std.proofs.Common.{◌≡◌, ◌⊎◌, inl, inr, ℕ, suc, Bool, true, false, cond, not, List, [], ◌∷◌, ◌++◌, map, filter, Option, Some, None, refl, ap, sym, subst, ◌∙◌, true≢false}
use Rattle.std.specs.Prelude.{if◌then◌else◌}
use Rattle.std.specs.Option.{option_map_or}
use Rattle.std.proofs.lemmas.Bool.{false_from_ne_true, cases_Bool}
use Rattle.file_model.specs.Places.{unplaced_items, put_again}
use Rattle.change_model.specs.Differs.{is_among, differing_from}
use Rattle.change_laws.specs.Merged.{Has, AreApart, StandAtPlaces, with_item, with_items, item_of}
use Rattle.change_laws.proofs.Placing.{all_has, all_from, settles}
use Rattle.change_laws.proofs.Orders.{Found, found, any_has, has_filter, filter_has, one_alike}

module _ {X : Type 0} (alike : X → X → Bool) (itself : (x : X) → alike x x ≡ true) (back : (x y : X) → alike x y ≡ true → alike y x ≡ true) (through : (x y z : X) → alike x y ≡ true → alike y z ≡ true → alike x z ≡ true) where
  -- an item in place of the one that is alike
  abbrev instead : X → X → X
  instead y x = if alike y x then y else x

  instead_alike : (y x : X) → alike (instead y x) x ≡ true
  instead_alike y x = by (alike y x) refl
    where
      by : (b : Bool) → alike y x ≡ b → alike (if b then y else x) x ≡ true
      by true e = e
      by false e = itself x

  record Came (y : X) (xs : List X) (w : X) : Type 0 where
    item : X
    there : Has item xs
    is : w ≡ instead y item

  came_from : (y w : X) (xs : List X) → Has w (map (instead y) xs) → Came y xs w
  came_from y w [] h = absurd h
  came_from y w (x ∷ xs) (inl e) = record { item = x; there = inl refl; is = e }
  came_from y w (x ∷ xs) (inr h) = let c = came_from y w xs h in record { item = c.item; there = inr c.there; is = c.is }

  goes_to : (y x : X) (xs : List X) → Has x xs → Has (instead y x) (map (instead y) xs)
  goes_to y x [] h = absurd h
  goes_to y x (z ∷ zs) (inl e) = inl (ap (instead y) e)
  goes_to y x (z ∷ zs) (inr h) = inr (goes_to y x zs h)

  apart_map : (y : X) (xs : List X) → AreApart alike xs → AreApart alike (map (instead y) xs)
  apart_map y [] apart = tt
  apart_map y (x ∷ xs) apart = (all_from (λ (w : X). alike (instead y x) w ≡ true → ⊥) (map (instead y) xs) other, apart_map y xs apart.1)
    where
      other : (w : X) → Has w (map (instead y) xs) → alike (instead y x) w ≡ true → ⊥
      other w h e =
          let c = came_from y w xs h in
          let first : alike x (instead y x) ≡ true = back (instead y x) x (instead_alike y x) in
          let second : alike x w ≡ true = through x (instead y x) w first e in
          let third : alike w c.item ≡ true = ap (λ (v : X). alike v c.item) c.is ∙ instead_alike y c.item in
          all_has (λ (v : X). alike x v ≡ true → ⊥) xs c.item apart.0 c.there (through x w c.item second third)

  has_end : (z y : X) (xs : List X) → Has z (xs ++ y ∷ []) → Has z xs ⊎ (z ≡ y)
  has_end z y [] (inl e) = inr e
  has_end z y [] (inr h) = absurd h
  has_end z y (x ∷ xs) (inl e) = inl (inl e)
  has_end z y (x ∷ xs) (inr h) = by (has_end z y xs h)
    where
      by : Has z xs ⊎ (z ≡ y) → Has z (x ∷ xs) ⊎ (z ≡ y)
      by (inl k) = inl (inr k)
      by (inr e) = inr e

  end_has : (z y : X) (xs : List X) → Has z xs ⊎ (z ≡ y) → Has z (xs ++ y ∷ [])
  end_has z y [] (inl h) = absurd h
  end_has z y [] (inr e) = inl e
  end_has z y (x ∷ xs) (inl (inl e)) = inl e
  end_has z y (x ∷ xs) (inl (inr h)) = inr (end_has z y xs (inl h))
  end_has z y (x ∷ xs) (inr e) = inr (end_has z y xs (inr e))

  apart_end : (y : X) (xs : List X) → AreApart alike xs → ((x : X) → Has x xs → alike x y ≡ true → ⊥) → AreApart alike (xs ++ y ∷ [])
  apart_end y [] apart new = (tt, tt)
  apart_end y (x ∷ xs) apart new = (all_from (λ (w : X). alike x w ≡ true → ⊥) (xs ++ y ∷ []) (λ w h. by w (has_end w y xs h)), apart_end y xs apart.1 (λ z h. new z (inr h)))
    where
      by : (w : X) → Has w xs ⊎ (w ≡ y) → alike x w ≡ true → ⊥
      by w (inl h) e = all_has (λ (v : X). alike x v ≡ true → ⊥) xs w apart.0 h e
      by w (inr s) e = new x (inl refl) (ap (alike x) (sym s) ∙ e)

  -- where none is alike, none of the items is
  none_alike : (y : X) (xs : List X) → is_among alike xs y ≡ false → (x : X) → Has x xs → alike y x ≡ true → ⊥
  none_alike y xs lacks x h e = true≢false (sym (any_has (alike y) xs x h e) ∙ lacks)

  pub apart_with : (y : X) (xs : List X) → AreApart alike xs → AreApart alike (with_item alike y xs)
  apart_with y xs apart = by (is_among alike xs y) refl
    where
      by : (b : Bool) → is_among alike xs y ≡ b → AreApart alike (if b then map (instead y) xs else xs ++ y ∷ [])
      by true e = apart_map y xs apart
      by false e = apart_end y xs apart (λ x h k. none_alike y xs e x h (back x y k))

  -- what is there then
  pub record Stays (y : X) (xs : List X) (z : X) : Type 0 where
    pub there : Has z xs
    pub other : alike y z ≡ true → ⊥

  pub with_has : (y z : X) (xs : List X) → Has z (with_item alike y xs) → (z ≡ y) ⊎ Stays y xs z
  with_has y z xs h = by (is_among alike xs y) refl h
    where
      choose : (c : Came y xs z) (b : Bool) → alike y c.item ≡ b → z ≡ (if b then y else c.item) → (z ≡ y) ⊎ Stays y xs z
      choose c true e s = inl s
      choose c false e s = inr (record { there = subst (λ (w : X). Has w xs) (sym s) c.there; other = λ k. true≢false (sym k ∙ ap (alike y) s ∙ e) })

      last : is_among alike xs y ≡ false → Has z xs ⊎ (z ≡ y) → (z ≡ y) ⊎ Stays y xs z
      last lacks (inl k) = inr (record { there = k; other = none_alike y xs lacks z k })
      last lacks (inr e) = inl e

      by : (b : Bool) → is_among alike xs y ≡ b → Has z (if b then map (instead y) xs else xs ++ y ∷ []) → (z ≡ y) ⊎ Stays y xs z
      by true e k = let c = came_from y z xs k in choose c (alike y c.item) refl c.is
      by false e k = last e (has_end z y xs k)

  has_new : (y : X) (xs : List X) → Has y (with_item alike y xs)
  has_new y xs = by (is_among alike xs y) refl
    where
      by : (b : Bool) → is_among alike xs y ≡ b → Has y (if b then map (instead y) xs else xs ++ y ∷ [])
      by true e =
          let f = found (alike y) xs e in
          subst (λ (w : X). Has w (map (instead y) xs)) (ap (λ (b : Bool). if b then y else f.item) f.passes) (goes_to y f.item xs f.there)
      by false e = end_has y y xs (inr refl)

  has_old : (y z : X) (xs : List X) → Stays y xs z → Has z (with_item alike y xs)
  has_old y z xs s = by (is_among alike xs y)
    where
      by : (b : Bool) → Has z (if b then map (instead y) xs else xs ++ y ∷ [])
      by true = subst (λ (w : X). Has w (map (instead y) xs)) (ap (λ (b : Bool). if b then y else z) (false_from_ne_true (alike y z) s.other)) (goes_to y z xs s.there)
      by false = end_has z y xs (inl s.there)

  -- the same of items one after the other
  pub record Remains (ys xs : List X) (z : X) : Type 0 where
    pub there : Has z xs
    pub other : (y : X) → Has y ys → alike y z ≡ true → ⊥

  pub apart_all : (ys xs : List X) → AreApart alike xs → AreApart alike (with_items alike ys xs)
  apart_all [] xs apart = apart
  apart_all (y ∷ ys) xs apart = apart_all ys (with_item alike y xs) (apart_with y xs apart)

  pub all_come : (ys xs : List X) (z : X) → Has z (with_items alike ys xs) → Has z ys ⊎ Remains ys xs z
  all_come [] xs z h = inr (record { there = h; other = λ y k e. k })
  all_come (y ∷ ys) xs z h = by (all_come ys (with_item alike y xs) z h)
    where
      at : (lacks : (w : X) → Has w ys → alike w z ≡ true → ⊥) → (z ≡ y) ⊎ Stays y xs z → Has z (y ∷ ys) ⊎ Remains (y ∷ ys) xs z
      at lacks (inl e) = inl (inl e)
      at lacks (inr s) = inr (record { there = s.there; other = both })
        where
          both : (w : X) → (w ≡ y) ⊎ Has w ys → alike w z ≡ true → ⊥
          both w (inl f) e = s.other (ap (λ (v : X). alike v z) (sym f) ∙ e)
          both w (inr k) e = lacks w k e

      by : Has z ys ⊎ Remains ys (with_item alike y xs) z → Has z (y ∷ ys) ⊎ Remains (y ∷ ys) xs z
      by (inl k) = inl (inr k)
      by (inr r) = at r.other (with_has y z xs r.there)

  remains_there : (ys xs : List X) (z : X) → Remains ys xs z → Has z (with_items alike ys xs)
  remains_there [] xs z r = r.there
  remains_there (y ∷ ys) xs z r = remains_there ys (with_item alike y xs) z (record { there = has_old y z xs (record { there = r.there; other = r.other y (inl refl) }); other = λ w h. r.other w (inr h) })

  new_there : (ys xs : List X) (z : X) → AreApart alike ys → Has z ys → Has z (with_items alike ys xs)
  new_there [] xs z apart h = absurd h
  new_there (y ∷ ys) xs z apart (inl e) =
      remains_there ys (with_item alike y xs) z (record { there = subst (λ (w : X). Has w (with_item alike y xs)) (sym e) (has_new y xs); other = λ w h k. all_has (λ (v : X). alike y v ≡ true → ⊥) ys w apart.0 h (back w y (ap (alike w) (sym e) ∙ k)) })
  new_there (y ∷ ys) xs z apart (inr h) = new_there ys (with_item alike y xs) z apart.1 h

  -- items without places stay in order
  module _ (place : X → Option ℕ) (respects : (x y : X) → alike x y ≡ true → place x ≡ place y) where
    unplaced_map : (y : X) (k : ℕ) (xs : List X) → place y ≡ Some k → unplaced_items place (map (instead y) xs) ≡ unplaced_items place xs
    unplaced_map y k [] e = refl
    unplaced_map y k (x ∷ xs) e = by (alike y x) refl (unplaced_map y k xs e)
      where
        by : (b : Bool) → alike y x ≡ b → unplaced_items place (map (instead y) xs) ≡ unplaced_items place xs
            → option_map_or (λ n. unplaced_items place (map (instead y) xs)) (place (if b then y else x)) ((if b then y else x) ∷ unplaced_items place (map (instead y) xs)) ≡ option_map_or (λ n. unplaced_items place xs) (place x) (x ∷ unplaced_items place xs)
        by true f rest =
            ap (λ (o : Option ℕ). option_map_or (λ n. unplaced_items place (map (instead y) xs)) o (y ∷ unplaced_items place (map (instead y) xs))) e
            ∙ rest
            ∙ sym (ap (λ (o : Option ℕ). option_map_or (λ n. unplaced_items place xs) o (x ∷ unplaced_items place xs)) (sym (respects y x f) ∙ e))
        by false f rest = ap (λ (us : List X). option_map_or (λ n. us) (place x) (x ∷ us)) rest

    unplaced_end : (y : X) (k : ℕ) (xs : List X) → place y ≡ Some k → unplaced_items place (xs ++ y ∷ []) ≡ unplaced_items place xs
    unplaced_end y k [] e = ap (λ (o : Option ℕ). option_map_or (λ n. []) o (y ∷ [])) e
    unplaced_end y k (x ∷ xs) e = ap (λ (us : List X). option_map_or (λ n. us) (place x) (x ∷ us)) (unplaced_end y k xs e)

    unplaced_with : (y : X) (k : ℕ) (xs : List X) → place y ≡ Some k → unplaced_items place (with_item alike y xs) ≡ unplaced_items place xs
    unplaced_with y k xs e = by (is_among alike xs y)
      where
        by : (b : Bool) → unplaced_items place (if b then map (instead y) xs else xs ++ y ∷ []) ≡ unplaced_items place xs
        by true = unplaced_map y k xs e
        by false = unplaced_end y k xs e

    pub unplaced_all : (ys xs : List X) → ((y : X) → Has y ys → (k : ℕ) × (place y ≡ Some k)) → unplaced_items place (with_items alike ys xs) ≡ unplaced_items place xs
    unplaced_all [] xs at = refl
    unplaced_all (y ∷ ys) xs at =
        let p = at y (inl refl) in
        unplaced_all ys (with_item alike y xs) (λ z h. at z (inr h)) ∙ unplaced_with y p.0 xs p.1

  -- A list into which the items that differ can be put: of those that stay it has each, in order, and of the others only such as are alike to some that come.
  pub record IsReady (stay : X → Bool) (place : X → Option ℕ) (xs ys : List X) : Type 0 where
    pub apart : AreApart alike xs
    pub known : (z : X) → Has z xs → is_among alike ys z ≡ true
    pub same : (z y : X) → Has z xs → Has y ys → alike z y ≡ true → stay y ≡ true → z ≡ y
    pub there : (y : X) → Has y ys → stay y ≡ true → Has y xs
    pub order : unplaced_items place xs ≡ unplaced_items place ys

  -- each item that differs has its place, and each that stays has none
  abbrev pub PlacedWhere : (X → Bool) → (X → Option ℕ) → ℕ → List X → Type 0
  PlacedWhere stay place k [] = Unit {0}
  PlacedWhere stay place k (y ∷ ys) = (((stay y ≡ true) × (place y ≡ None)) ⊎ ((stay y ≡ false) × (place y ≡ Some (suc k)))) × PlacedWhere stay place (suc k) ys

  stand_where : (stay : X → Bool) (place : X → Option ℕ) (k : ℕ) (ys : List X) → PlacedWhere stay place k ys → StandAtPlaces place k ys
  stand_where stay place k [] p = tt
  stand_where stay place k (y ∷ ys) p = (by p.0, stand_where stay place (suc k) ys p.1)
    where
      by : ((stay y ≡ true) × (place y ≡ None)) ⊎ ((stay y ≡ false) × (place y ≡ Some (suc k))) → (place y ≡ None) ⊎ (place y ≡ Some (suc k))
      by (inl q) = inl q.1
      by (inr q) = inr q.1

  abbrev pub IsPlacedWhere : (X → Bool) → (X → Option ℕ) → X → Type 0
  IsPlacedWhere stay place y = ((stay y ≡ true) × (place y ≡ None)) ⊎ ((stay y ≡ false) × ((k : ℕ) × (place y ≡ Some k)))

  pub is_where : (stay : X → Bool) (place : X → Option ℕ) (k : ℕ) (ys : List X) → PlacedWhere stay place k ys → (y : X) → Has y ys → IsPlacedWhere stay place y
  is_where stay place k [] p y h = absurd h
  is_where stay place k (z ∷ zs) p y (inl e) = subst (IsPlacedWhere stay place) (sym e) (by p.0)
    where
      by : ((stay z ≡ true) × (place z ≡ None)) ⊎ ((stay z ≡ false) × (place z ≡ Some (suc k))) → IsPlacedWhere stay place z
      by (inl q) = inl q
      by (inr q) = inr (q.0, (suc k, q.1))
  is_where stay place k (z ∷ zs) p y (inr h) = is_where stay place (suc k) zs p.1 y h

  -- the items that differ
  items_differing : (stay : X → Bool) (k : ℕ) (ys : List X) → map item_of (differing_from k stay ys) ≡ filter (λ y. not (stay y)) ys
  items_differing stay k [] = refl
  items_differing stay k (y ∷ ys) = by (stay y) (items_differing stay (suc k) ys)
    where
      by : (b : Bool) → map item_of (differing_from (suc k) stay ys) ≡ filter (λ z. not (stay z)) ys → map item_of (if b then differing_from (suc k) stay ys else record { place = k; item = y } ∷ differing_from (suc k) stay ys) ≡ cond (not b) (y ∷ filter (λ z. not (stay z)) ys) (filter (λ z. not (stay z)) ys)
      by true rest = rest
      by false rest = ap (λ (zs : List X). y ∷ zs) rest

  -- once they are put in and put at their places, the list is the other
  pub comes_out : (stay : X → Bool) (place : X → Option ℕ) → ((x y : X) → alike x y ≡ true → place x ≡ place y) → (xs ys : List X) → AreApart alike ys → PlacedWhere stay place 0 ys → IsReady stay place xs ys → ((p : List X) → AreApart alike p → AreApart alike (filter (λ y. not (stay y)) p))
      → put_again place (with_items alike (map item_of (differing_from 1 stay ys)) xs) ≡ ys
  comes_out stay place respects xs ys apart at ready kept =
      ap (λ (ds : List X). put_again place (with_items alike ds xs)) (items_differing stay 1 ys)
      ∙ settles alike itself place (with_items alike others xs) ys (record { there = come; back = go }) (apart_all others xs ready.apart) (stand_where stay place 0 ys at) (unplaced_all place respects others xs has_place ∙ ready.order)
    where
      others : List X
      others = filter (λ y. not (stay y)) ys

      has_place : (y : X) → Has y others → (k : ℕ) × (place y ≡ Some k)
      has_place y h = let f = filter_has (λ z. not (stay z)) ys y h in by (is_where stay place 0 ys at y f.there) f.passes
        where
          by : IsPlacedWhere stay place y → not (stay y) ≡ true → (k : ℕ) × (place y ≡ Some k)
          by (inl q) e = absurd (true≢false (sym e ∙ ap not q.0))
          by (inr q) e = q.1

      come : (z : X) → Has z (with_items alike others xs) → Has z ys
      come z h = by (all_come others xs z h)
        where
          known : (r : Remains others xs z) (f : Found (alike z) ys) → (stay f.item ≡ true) ⊎ (stay f.item ≡ false) → Has z ys
          known r f (inl e) = subst (λ (w : X). Has w ys) (sym (ready.same z f.item r.there f.there f.passes e)) f.there
          known r f (inr e) = absurd (r.other f.item (has_filter (λ y. not (stay y)) ys f.item f.there (ap not e)) (back z f.item f.passes))

          by : Has z others ⊎ Remains others xs z → Has z ys
          by (inl k) = (filter_has (λ y. not (stay y)) ys z k).there
          by (inr r) = let f = found (alike z) ys (ready.known z r.there) in known r f (cases_Bool (stay f.item))

      go : (y : X) → Has y ys → Has y (with_items alike others xs)
      go y h = by (stay y) refl
        where
          other : (w : X) → Has w others → stay y ≡ true → alike w y ≡ true → ⊥
          other w k e s =
              let f = filter_has (λ z. not (stay z)) ys w k in
              let same : w ≡ y = one_alike alike itself back ys w y apart f.there h s in
              true≢false (sym f.passes ∙ ap not (ap stay same ∙ e))

          by : (b : Bool) → stay y ≡ b → Has y (with_items alike others xs)
          by true e = remains_there others xs y (record { there = ready.there y h e; other = λ w k s. other w k e s })
          by false e = new_there others xs y (kept ys apart) (has_filter (λ z. not (stay z)) ys y h (ap not e))
