-- Each metavariable bound once, at its first place.
use Rattle.std.proofs.Common.{◌≡◌, ℕ, zero, suc, ◌+◌, ◌<◌, ◌≤◌, Bool, true, false, List, [], ◌∷◌, ◌++◌, length, get_or, take, drop, map, refl, sym, ap, ◌∙◌, arith, append_assoc, append-nil, Some, None}
use Rattle.std.specs.Prelude.{cond, not, ◌&&◌, ◌||◌, nat_eq, filter, unwrap_or, option_map}
use Rattle.std.specs.List.{list_any, position_or_len, position}
use Rattle.std.proofs.lemmas.List.{drop_more, drop_all, take_more, take-append-drop}
use Rattle.std.proofs.lemmas.Bool.{false≢true}
use Rattle.tree_model.specs.Tree.{TreeOf}
use Rattle.pattern_model.specs.Patterns.{MetaOf, PatternOf}
use Rattle.pattern_model.specs.Bindings.{BindingOf, same_meta, doubled_by}
use Rattle.pattern_model.specs.MatchTree.{PlaceOf, FoundOf, bindings_of, match_places, match_tree}
use Rattle.pattern_laws.proofs.SameMetas.{meta_refl, meta_left}
use Rattle.pattern_match.specs.Words.{number_words}
use Rattle.patterns.specs.View.{meta_of}
use Rattle.pattern_match.specs.declared.standing.Place.{Place}
use Rattle.pattern_match.specs.declared.bindings.Held.{Held}
use Rattle.pattern_match.specs.Gathering.{bound_from, place_of, kept}
use Rattle.pattern_match.specs.FirstPlaces.{no_place}
use Rattle.pattern_match.specs.Bound.{held_of, taken, left, with_others}
use Rattle.pattern_match.proofs.FirstPlaces.{place_at, first_number, places_within}
use Rattle.pattern_match.proofs.Told.{one_test, number_refl, number_told}

pub left_none : (bs : List (BindingOf ℕ)) → left [] bs ≡ bs
left_none [] = refl
left_none (b ∷ bs) = ap (λ (cs : List (BindingOf ℕ)). b ∷ cs) (left_none bs)

or_or : (a b c : Bool) → (a || (b || c)) ≡ ((a || b) || c)
or_or true b c = refl
or_or false b c = refl

or_false : (b : Bool) → (b || false) ≡ b
or_false true = refl
or_false false = refl

or_true : (b : Bool) → (b || true) ≡ true
or_true true = refl
or_true false = refl

any_both : {X : Type 0} (p : X → Bool) (xs ys : List X) → list_any p (xs ++ ys) ≡ (list_any p xs || list_any p ys)
any_both p [] ys = refl
any_both p (x ∷ xs) ys = ap (λ b. p x || b) (any_both p xs ys) ∙ or_or (p x) (list_any p xs) (list_any p ys)

left_more : (ys : List (PlaceOf ℕ)) (x : PlaceOf ℕ) (bs : List (BindingOf ℕ)) → left ys (filter (λ b. not (same_meta nat_eq x.meta b.meta)) bs) ≡ left (ys ++ x ∷ []) bs
left_more ys x [] = refl
left_more ys x (b ∷ bs) = by (same_meta nat_eq x.meta b.meta) refl (left_more ys x bs)
  where
    last : taken (ys ++ x ∷ []) b.meta ≡ (taken ys b.meta || (same_meta nat_eq x.meta b.meta || false))
    last = any_both (λ y. same_meta nat_eq y.meta b.meta) ys (x ∷ [])

    by : (c : Bool) → same_meta nat_eq x.meta b.meta ≡ c → left ys (filter (λ d. not (same_meta nat_eq x.meta d.meta)) bs) ≡ left (ys ++ x ∷ []) bs
        → left ys (cond (not c) (b ∷ filter (λ d. not (same_meta nat_eq x.meta d.meta)) bs) (filter (λ d. not (same_meta nat_eq x.meta d.meta)) bs)) ≡ left (ys ++ x ∷ []) (b ∷ bs)
    by true e h =
        let out : taken (ys ++ x ∷ []) b.meta ≡ true = last ∙ ap (λ c. taken ys b.meta || (c || false)) e ∙ or_true (taken ys b.meta) in
        h ∙ ap (λ c. cond (not c) (b ∷ left (ys ++ x ∷ []) bs) (left (ys ++ x ∷ []) bs)) (sym out)
    by false e h =
        let same : taken ys b.meta ≡ taken (ys ++ x ∷ []) b.meta = sym (last ∙ ap (λ c. taken ys b.meta || (c || false)) e ∙ or_false (taken ys b.meta)) in
        λ i. cond (not (same i)) (b ∷ h i) (h i)

-- the binding of a place before others
abbrev pub binding_at : PlaceOf ℕ → List (PlaceOf ℕ) → BindingOf ℕ
binding_at x rest = record { meta = doubled_by nat_eq (map (λ y. y.meta) rest) x.meta; bound = x.bound }

module _ (xs : List (PlaceOf ℕ)) (i : ℕ) (x : PlaceOf ℕ) (cut : drop i xs ≡ x ∷ drop (i + 1) xs) (front : take (i + 1) xs ≡ take i xs ++ x ∷ []) where
  later : List (BindingOf ℕ)
  later = bindings_of (number_words []) (drop (i + 1) xs)

  one : (b : Bool) → taken (take i xs) x.meta ≡ b
      → left (take i xs) (bindings_of (number_words []) (drop i xs)) ≡ cond (not b) (binding_at x (drop (i + 1) xs) ∷ left (take (i + 1) xs) (bindings_of (number_words []) (drop (i + 1) xs))) (left (take (i + 1) xs) (bindings_of (number_words []) (drop (i + 1) xs)))
  one b e =
      let rest : left (take i xs) (filter (λ d. not (same_meta nat_eq x.meta d.meta)) (bindings_of (number_words []) (drop (i + 1) xs))) ≡ left (take (i + 1) xs) (bindings_of (number_words []) (drop (i + 1) xs)) =
      left_more (take i xs) x (bindings_of (number_words []) (drop (i + 1) xs)) ∙ ap (λ (ys : List (PlaceOf ℕ)). left ys (bindings_of (number_words []) (drop (i + 1) xs))) (sym front) in
      ap (λ (ys : List (PlaceOf ℕ)). left (take i xs) (bindings_of (number_words []) ys)) cut
      ∙ (λ j. cond (not (e j)) (binding_at x (drop (i + 1) xs) ∷ rest j) (rest j))

  -- a metavariable that has an earlier place is bound already
  pub skipped : (bs all : List (BindingOf ℕ)) → taken (take i xs) x.meta ≡ true → bs ++ left (take i xs) (bindings_of (number_words []) (drop i xs)) ≡ all → bs ++ left (take (i + 1) xs) (bindings_of (number_words []) (drop (i + 1) xs)) ≡ all
  skipped bs all e so_far = ap (λ (cs : List (BindingOf ℕ)). bs ++ cs) (sym (one true e)) ∙ so_far

  -- any other is bound
  pub put : (bs cs all : List (BindingOf ℕ)) → taken (take i xs) x.meta ≡ false → cs ≡ bs ++ binding_at x (drop (i + 1) xs) ∷ [] → bs ++ left (take i xs) (bindings_of (number_words []) (drop i xs)) ≡ all
      → cs ++ left (take (i + 1) xs) (bindings_of (number_words []) (drop (i + 1) xs)) ≡ all
  put bs cs all e more so_far =
      let rest : List (BindingOf ℕ) = left (take (i + 1) xs) (bindings_of (number_words []) (drop (i + 1) xs)) in
      ap (λ (ds : List (BindingOf ℕ)). ds ++ rest) more ∙ append_assoc bs (binding_at x (drop (i + 1) xs) ∷ []) rest
      ∙ ap (λ (ds : List (BindingOf ℕ)). bs ++ ds) (sym (one false e)) ∙ so_far

-- whether the first place is an earlier one
pub taken_before : (m : MetaOf ℕ) (xs : List (PlaceOf ℕ)) (n i : ℕ) → n ≡ position_or_len (λ y. same_meta nat_eq y.meta m) xs → n < i → i ≤ length xs → taken (take i xs) m ≡ true
taken_before m xs n zero e h l = absurd (omega arith)
taken_before m [] n (suc i) e h l = absurd (omega arith)
taken_before m (x ∷ xs) n (suc i) e h l = by (same_meta nat_eq x.meta m) refl (taken_before m xs (position_or_len (λ y. same_meta nat_eq y.meta m) xs) i refl)
  where
    by : (b : Bool) → same_meta nat_eq x.meta m ≡ b → (position_or_len (λ y. same_meta nat_eq y.meta m) xs < i → i ≤ length xs → taken (take i xs) m ≡ true) → (b || taken (take i xs) m) ≡ true
    by true f rec = refl
    by false f rec = let g : n ≡ 1 + position_or_len (λ y. same_meta nat_eq y.meta m) xs = e ∙ rw f refl in rec (omega (arith, g, h)) (omega (arith, l))

pub not_before : (m : MetaOf ℕ) (xs : List (PlaceOf ℕ)) (n i : ℕ) → n ≡ position_or_len (λ y. same_meta nat_eq y.meta m) xs → i ≤ n → taken (take i xs) m ≡ false
not_before m xs n zero e h = by xs
  where
    by : (ys : List (PlaceOf ℕ)) → taken (take 0 ys) m ≡ false
    by [] = refl
    by (y ∷ ys) = refl
not_before m [] n (suc i) e h = refl
not_before m (x ∷ xs) n (suc i) e h = by (same_meta nat_eq x.meta m) refl (not_before m xs (position_or_len (λ y. same_meta nat_eq y.meta m) xs) i refl)
  where
    by : (b : Bool) → same_meta nat_eq x.meta m ≡ b → (i ≤ position_or_len (λ y. same_meta nat_eq y.meta m) xs → taken (take i xs) m ≡ false) → (b || taken (take i xs) m) ≡ false
    by true f rec = let g : n ≡ 0 = e ∙ rw f refl in absurd (omega (arith, g, h))
    by false f rec = let g : n ≡ 1 + position_or_len (λ y. same_meta nat_eq y.meta m) xs = e ∙ rw f refl in rec (omega (arith, g, h))

-- which of two metavariables stands first in the test does not matter
meta_turned : (m n : MetaOf ℕ) → same_meta nat_eq m n ≡ same_meta nat_eq n m
meta_turned m n =
    one_test (same_meta nat_eq m n) (same_meta nat_eq n m)
    (λ e. sym (meta_left nat_eq number_refl number_told m n m e) ∙ meta_refl nat_eq number_refl number_told m)
    (λ e. sym (meta_left nat_eq number_refl number_told n m n e) ∙ meta_refl nat_eq number_refl number_told n)

-- whether a metavariable is doubled at some place
abbrev pub doubled_at : MetaOf ℕ → PlaceOf ℕ → Bool
doubled_at m y = same_meta nat_eq m y.meta && y.meta.doubled

or_parts : (a b : Bool) → (a || b) ≡ false → (a ≡ false) × (b ≡ false)
or_parts true b e = absurd (false≢true (sym e))
or_parts false b e = (refl, e)

not_doubled : (m : MetaOf ℕ) (ys : List (PlaceOf ℕ)) → taken ys m ≡ false → list_any (doubled_at m) ys ≡ false
not_doubled m [] e = refl
not_doubled m (y ∷ ys) e =
    let h = or_parts (same_meta nat_eq y.meta m) (taken ys m) e in
    ap (λ b. (b && y.meta.doubled) || list_any (doubled_at m) ys) (meta_turned m y.meta ∙ h.0) ∙ not_doubled m ys h.1

any_meta : (m : MetaOf ℕ) (ys : List (PlaceOf ℕ)) → list_any (doubled_at m) ys ≡ list_any (λ n. same_meta nat_eq m n && n.doubled) (map (λ y. y.meta) ys)
any_meta m [] = refl
any_meta m (y ∷ ys) = ap (λ b. doubled_at m y || b) (any_meta m ys)

pub doubled_somewhere : (xs : List (PlaceOf ℕ)) (i : ℕ) (x : PlaceOf ℕ) → drop i xs ≡ x ∷ drop (i + 1) xs → taken (take i xs) x.meta ≡ false
    → list_any (doubled_at x.meta) xs ≡ (doubled_by nat_eq (map (λ y. y.meta) (drop (i + 1) xs)) x.meta).doubled
doubled_somewhere xs i x cut e =
    ap (list_any (doubled_at x.meta)) (sym (take-append-drop i xs))
    ∙ any_both (doubled_at x.meta) (take i xs) (drop i xs)
    ∙ ap (λ b. b || list_any (doubled_at x.meta) (drop i xs)) (not_doubled x.meta (take i xs) e)
    ∙ ap (list_any (doubled_at x.meta)) cut
    ∙ ap (λ b. (b && x.meta.doubled) || list_any (doubled_at x.meta) (drop (i + 1) xs)) (meta_refl nat_eq number_refl number_told x.meta)
    ∙ ap (λ b. x.meta.doubled || b) (any_meta x.meta (drop (i + 1) xs))

any_map : (m : MetaOf ℕ) (ps : List Place) → list_any (λ x. same_meta nat_eq m (meta_of x.meta) && x.meta.doubled) ps ≡ list_any (doubled_at m) (map place_of ps)
any_map m [] = refl
any_map m (p ∷ ps) = ap (λ b. doubled_at m (place_of p) || b) (any_map m ps)

map_last : (bs : List Held) (b : Held) → map held_of (bs ++ b ∷ []) ≡ map held_of bs ++ held_of b ∷ []
map_last [] b = refl
map_last (d ∷ bs) b = ap (λ (cs : List (BindingOf ℕ)). held_of d ∷ cs) (map_last bs b)

module _ (ps : List Place) (i : ℕ) (p : Place) (h : i < length ps) (is : p ≡ get_or ps i p) (n : ℕ) (first : n ≡ unwrap_or (position (λ x. same_meta nat_eq (meta_of x.meta) (meta_of p.meta)) ps) (length ps)) where
  xs : List (PlaceOf ℕ)
  xs = map place_of ps

  cut : drop i (map place_of ps) ≡ place_of p ∷ drop (i + 1) (map place_of ps)
  cut = drop_more (map place_of ps) i no_place (places_within ps i p h is n first) ∙ ap (λ (x : PlaceOf ℕ). x ∷ drop (i + 1) (map place_of ps)) (place_at ps i p h is n first)

  front : take (i + 1) (map place_of ps) ≡ take i (map place_of ps) ++ place_of p ∷ []
  front = take_more (map place_of ps) i no_place (places_within ps i p h is n first) ∙ ap (λ (x : PlaceOf ℕ). take i (map place_of ps) ++ x ∷ []) (place_at ps i p h is n first)

  -- a metavariable that has an earlier place is bound already
  pub bound_already : (bs : List (BindingOf ℕ)) → n < i → with_others (map place_of ps) (i + 1) bs ≡ with_others (map place_of ps) i bs
  bound_already bs less =
      skipped (map place_of ps) i (place_of p) cut front bs (with_others (map place_of ps) i bs)
      (taken_before (meta_of p.meta) (map place_of ps) n i (first_number ps i p h is n first) less (let l : i < length (map place_of ps) = places_within ps i p h is n first in omega (arith, l))) refl

  -- any other is bound now
  pub bound_now : (bs cs : List Held) (b : Held) → (n < i → ⊥) → cs ≡ bs ++ b ∷ [] → b.meta.kind ≡ p.meta.kind → b.meta.name ≡ p.meta.name
      → b.meta.doubled ≡ list_any (λ x. same_meta nat_eq (meta_of p.meta) (meta_of x.meta) && x.meta.doubled) ps → bound_from b.bound ≡ bound_from p.bound
      → with_others (map place_of ps) (i + 1) (map held_of cs) ≡ with_others (map place_of ps) i (map held_of bs)
  bound_now bs cs b late more kind name doubled bound =
      let free : taken (take i (map place_of ps)) (meta_of p.meta) ≡ false = not_before (meta_of p.meta) (map place_of ps) n i (first_number ps i p h is n first) (omega (arith, late)) in
      let flag : b.meta.doubled ≡ (binding_at (place_of p) (drop (i + 1) (map place_of ps))).meta.doubled = doubled ∙ any_map (meta_of p.meta) ps ∙ doubled_somewhere (map place_of ps) i (place_of p) cut free in
      let made : held_of b ≡ binding_at (place_of p) (drop (i + 1) (map place_of ps)) = λ j. record { meta = record { kind = kind j; name = name j; doubled = flag j }; bound = bound j } in
      put (map place_of ps) i (place_of p) cut front (map held_of bs) (map held_of cs) (with_others (map place_of ps) i (map held_of bs)) free
      (ap (map held_of) more ∙ map_last bs b ∙ ap (λ (d : BindingOf ℕ). map held_of bs ++ d ∷ []) made) refl

-- all are bound
pub all_bound : (xs : List (PlaceOf ℕ)) (i : ℕ) (bs : List (BindingOf ℕ)) → length xs ≤ i → with_others xs i bs ≡ with_others xs 0 [] → bs ≡ bindings_of (number_words []) xs
all_bound xs i bs end so_far =
    sym (append-nil bs) ∙ ap (λ (ys : List (PlaceOf ℕ)). bs ++ left (take i xs) (bindings_of (number_words []) ys)) (sym (drop_all i xs end)) ∙ so_far ∙ start xs
  where
    start : (ys : List (PlaceOf ℕ)) → left (take 0 ys) (bindings_of (number_words []) (drop 0 ys)) ≡ bindings_of (number_words []) ys
    start [] = refl
    start (y ∷ ys) = left_none (bindings_of (number_words []) (y ∷ ys))

-- the bindings of places do not depend on their parts
pub kept_bindings : (q : List ℕ) (xs : List (PlaceOf ℕ)) → bindings_of (number_words []) (map (kept q) xs) ≡ bindings_of (number_words []) xs
kept_bindings q [] = refl
kept_bindings q (x ∷ xs) = λ i. record { meta = doubled_by nat_eq (metas_kept xs i) x.meta; bound = x.bound } ∷ filter (λ b. not (same_meta nat_eq x.meta b.meta)) (kept_bindings q xs i)
  where
    metas_kept : (ys : List (PlaceOf ℕ)) → map (λ y. y.meta) (map (kept q) ys) ≡ map (λ y. y.meta) ys
    metas_kept [] = refl
    metas_kept (y ∷ ys) = ap (λ (ms : List (MetaOf ℕ)). y.meta ∷ ms) (metas_kept ys)

module _ (names : List (List ℕ)) (p : PatternOf ℕ) (t : TreeOf ℕ) where
  -- no places, no bindings
  pub no_bindings : None ≡ option_map (map (kept [])) (match_places (number_words names) p t) → None ≡ match_tree (number_words names) p t
  no_bindings e = by (match_places (number_words names) p t) e
    where
      by : (o : FoundOf ℕ) → None ≡ option_map (map (kept [])) o → None ≡ option_map (bindings_of (number_words names)) o
      by None f = refl
      by (Some xs) f = let bad : ⊥ = cc in absurd bad

  pub their_bindings : (ps : List Place) (bs : List (BindingOf ℕ)) → Some (map place_of ps) ≡ option_map (map (kept [])) (match_places (number_words names) p t) → bs ≡ bindings_of (number_words []) (map place_of ps) → Some bs ≡ match_tree (number_words names) p t
  their_bindings ps bs e is = by (match_places (number_words names) p t) e
    where
      by : (o : FoundOf ℕ) → Some (map place_of ps) ≡ option_map (map (kept [])) o → Some bs ≡ option_map (bindings_of (number_words names)) o
      by None f = let bad : ⊥ = cc in absurd bad
      by (Some xs) f =
          let same : map place_of ps ≡ map (kept []) xs = cc in
          ap (λ (cs : List (BindingOf ℕ)). Some cs) (is ∙ ap (bindings_of (number_words [])) same ∙ kept_bindings [] xs)
