-- Equal parts stand at all places of one metavariable where each is equal to the part at its first place.
use Rattle.std.proofs.Common.{◌≡◌, ℕ, zero, suc, ◌+◌, ◌<◌, ◌≤◌, Bool, true, false, List, [], ◌∷◌, length, get_or, drop, map, refl, sym, ap, subst, ◌∙◌, inl, inr, arith, Some, None}
use Rattle.std.specs.Prelude.{cond, not, ◌||◌, nat_eq, IsTrue, ◌↔◌, unwrap_or, ltb}
use Rattle.std.specs.List.{list_all, AllByRecursion, position_or_len, position}
use Rattle.std.proofs.lemmas.List.{drop_more, drop_all}
use Rattle.std.proofs.lemmas.Bool.{cases_Bool, false≢true, and_parts, and_from, ltb-false}
use Rattle.tree_model.specs.Tree.{var}
use Rattle.tree_model.specs.Bare.{bare_trees}
use Rattle.same_trees.specs.SameTrees.{same_trees}
use Rattle.same_trees.proofs.Told.{text_told, tree_told, trees_told, statements_told, tree_same, trees_same, statements_same}
use Rattle.rb_base.specs.Names.{text_eq}
use Rattle.rb_base.proofs.NamesLemmas.{text_eq-refl}
use Rattle.pattern_model.specs.Patterns.{MetaOf}
use Rattle.pattern_model.specs.Bindings.{BoundOf, a_part, a_run, a_selector, a_keyword, a_message, bare_bound, same_meta}
use Rattle.pattern_model.specs.MatchTree.{PlaceOf, same_bound}
use Rattle.pattern_laws.proofs.SameMetas.{meta_refl, meta_right}
use Rattle.pattern_match.specs.declared.standing.Place.{Place}
use Rattle.patterns.specs.View.{meta_of}
use Rattle.pattern_match.specs.Gathering.{bound_from, place_of}
use Rattle.pattern_match.specs.Words.{number_words}
use Rattle.pattern_match.specs.FirstPlaces.{agrees, first_bound, IsFirst, no_place}
use Rattle.pattern_match.proofs.Told.{number_refl, number_told}

-- what is told to be the same is, comments aside
pub bound_told : (b d : BoundOf ℕ) → same_bound (number_words []) b d ≡ true → bare_bound b ≡ bare_bound d
bound_told (a_part t) (a_part u) e = ap a_part (tree_told nat_eq number_told t u e)
bound_told (a_run ss) (a_run rs) e = ap a_run (statements_told nat_eq number_told ss rs e)
bound_told (a_selector s) (a_selector u) e = ap a_selector (number_told s u e)
bound_told (a_keyword k) (a_keyword l) e = ap a_keyword (text_told k l e)
bound_told (a_message s ts) (a_message u us) e =
    let h = and_parts (nat_eq s u) (same_trees nat_eq ts us) e in λ i. a_message (number_told s u h.0 i) (trees_told nat_eq number_told ts us h.1 i)
bound_told b d e = absurd (false≢true e)

pub bound_same : (b d : BoundOf ℕ) → bare_bound b ≡ bare_bound d → same_bound (number_words []) b d ≡ true
bound_same (a_part t) (a_part u) e = tree_same nat_eq number_refl t u cc
bound_same (a_run ss) (a_run rs) e = statements_same nat_eq number_refl ss rs cc
bound_same (a_selector s) (a_selector u) e = let f : s ≡ u = cc in ap (nat_eq s) (sym f) ∙ number_refl s
bound_same (a_keyword k) (a_keyword l) e = let f : k ≡ l = cc in ap (text_eq k) (sym f) ∙ text_eq-refl k
bound_same (a_message s ts) (a_message u us) e =
    let f : s ≡ u = cc in
    let g : bare_trees ts ≡ bare_trees us = cc in and_from (nat_eq s u) (same_trees nat_eq ts us) (ap (nat_eq s) (sym f) ∙ number_refl s) (trees_same nat_eq number_refl ts us g)
bound_same b d e = let bad : ⊥ = cc in absurd bad

pub first_alike : (xs : List (PlaceOf ℕ)) (m n : MetaOf ℕ) → same_meta nat_eq m n ≡ true → first_bound xs m ≡ first_bound xs n
first_alike [] m n e = ap (λ k. a_part (var k)) (number_told m.name n.name (and_parts _ _ e).1)
first_alike (x ∷ xs) m n e = λ i. cond (meta_right nat_eq number_refl number_told m n x.meta e i) x.bound (first_alike xs m n e i)

behind_first : (x : PlaceOf ℕ) (xs ys : List (PlaceOf ℕ)) → list_all (λ y. not (same_meta nat_eq x.meta y.meta) || same_bound (number_words []) x.bound y.bound) ys ≡ true
    → AllByRecursion (IsFirst xs) ys → AllByRecursion (IsFirst (x ∷ xs)) ys
behind_first x xs [] e h = tt
behind_first x xs (y ∷ ys) e h =
    let f = and_parts (not (same_meta nat_eq x.meta y.meta) || same_bound (number_words []) x.bound y.bound) (list_all (λ z. not (same_meta nat_eq x.meta z.meta) || same_bound (number_words []) x.bound z.bound) ys) e in
    (by (same_meta nat_eq x.meta y.meta) f.0, behind_first x xs ys f.1 h.1)
  where
    by : (b : Bool) → (not b || same_bound (number_words []) x.bound y.bound) ≡ true → bare_bound (cond b x.bound (first_bound xs y.meta)) ≡ bare_bound y.bound
    by true g = bound_told x.bound y.bound g
    by false g = h.0

-- where all agree
pub all_first : (xs : List (PlaceOf ℕ)) → agrees xs ≡ true → AllByRecursion (IsFirst xs) xs
all_first [] e = tt
all_first (x ∷ xs) e =
    let f = and_parts (list_all (λ y. not (same_meta nat_eq x.meta y.meta) || same_bound (number_words []) x.bound y.bound) xs) (agrees xs) e in (
      ap (λ b. bare_bound (cond b x.bound (first_bound xs x.meta))) (meta_refl nat_eq number_refl number_told x.meta),
      behind_first x xs xs f.0 (all_first xs f.1),
    )

alike_agree : (B : MetaOf ℕ → BoundOf ℕ) → ((m n : MetaOf ℕ) → same_meta nat_eq m n ≡ true → B m ≡ B n) → (xs : List (PlaceOf ℕ)) → AllByRecursion (λ x. bare_bound (B x.meta) ≡ bare_bound x.bound) xs → agrees xs ≡ true
alike_agree B alike [] h = refl
alike_agree B alike (x ∷ xs) h = and_from _ (agrees xs) (others xs h.1) (alike_agree B alike xs h.1)
  where
    others : (ys : List (PlaceOf ℕ)) → AllByRecursion (λ y. bare_bound (B y.meta) ≡ bare_bound y.bound) ys → list_all (λ y. not (same_meta nat_eq x.meta y.meta) || same_bound (number_words []) x.bound y.bound) ys ≡ true
    others [] g = refl
    others (y ∷ ys) g = and_from _ _ (by (same_meta nat_eq x.meta y.meta) refl) (others ys g.1)
      where
        by : (b : Bool) → same_meta nat_eq x.meta y.meta ≡ b → (not b || same_bound (number_words []) x.bound y.bound) ≡ true
        by true e = bound_same x.bound y.bound (sym h.0 ∙ ap bare_bound (alike x.meta y.meta e) ∙ g.0)
        by false e = refl

pub first_all : (xs : List (PlaceOf ℕ)) → AllByRecursion (IsFirst xs) xs → agrees xs ≡ true
first_all xs h = alike_agree (first_bound xs) (first_alike xs) xs h

-- where the first place is
place_here : (m : MetaOf ℕ) (x : PlaceOf ℕ) (xs : List (PlaceOf ℕ)) → 0 ≡ position_or_len (λ y. same_meta nat_eq y.meta m) (x ∷ xs) → same_meta nat_eq x.meta m ≡ true
place_here m x xs e =
    elim (cases_Bool (same_meta nat_eq x.meta m)) [
      | inl h ↦ h
      | inr h ↦ (let f : 0 ≡ 1 + position_or_len (λ y. same_meta nat_eq y.meta m) xs = e ∙ rw h refl in absurd (omega (arith, f)))
    ]

place_later : (m : MetaOf ℕ) (x : PlaceOf ℕ) (xs : List (PlaceOf ℕ)) (n : ℕ) → suc n ≡ position_or_len (λ y. same_meta nat_eq y.meta m) (x ∷ xs)
    → (same_meta nat_eq x.meta m ≡ false) × (n ≡ position_or_len (λ y. same_meta nat_eq y.meta m) xs)
place_later m x xs n e =
    elim (cases_Bool (same_meta nat_eq x.meta m)) [
      | inl h ↦ (let f : suc n ≡ 0 = e ∙ rw h refl in absurd (omega (arith, f)))
      | inr h ↦ (let f : suc n ≡ 1 + position_or_len (λ y. same_meta nat_eq y.meta m) xs = e ∙ rw h refl in (h, omega (arith, f)))
    ]

pub first_at : (m : MetaOf ℕ) (xs : List (PlaceOf ℕ)) (n : ℕ) (d : PlaceOf ℕ) → n ≡ position_or_len (λ y. same_meta nat_eq y.meta m) xs → n < length xs → first_bound xs m ≡ (get_or xs n d).bound
first_at m [] n d e h = absurd (omega arith)
first_at m (x ∷ xs) zero d e h = rw (place_here m x xs e) refl
first_at m (x ∷ xs) (suc n) d e h = let l = place_later m x xs n e in rw (l.0) (first_at m xs n d l.1 (omega arith))

-- a place is no earlier than the first place of its metavariable
pub first_before : (m : MetaOf ℕ) (xs : List (PlaceOf ℕ)) (n i : ℕ) (d : PlaceOf ℕ) → n ≡ position_or_len (λ y. same_meta nat_eq y.meta m) xs → i < length xs → same_meta nat_eq (get_or xs i d).meta m ≡ true → n ≤ i
first_before m [] n i d e h t = absurd (omega arith)
first_before m (x ∷ xs) zero i d e h t = omega arith
first_before m (x ∷ xs) (suc n) zero d e h t = absurd (false≢true (sym (place_later m x xs n e).0 ∙ t))
first_before m (x ∷ xs) (suc n) (suc i) d e h t = omega (arith, first_before m xs n i d (place_later m x xs n e).1 (omega arith) t)

length-map : (ps : List Place) → length (map place_of ps) ≡ length ps
length-map [] = refl
length-map (q ∷ ps) = ap suc (length-map ps)

get-map : (ps : List Place) (i : ℕ) (p : Place) (d : PlaceOf ℕ) → i < length ps → p ≡ get_or ps i p → get_or (map place_of ps) i d ≡ place_of p
get-map [] i p d h e = absurd (omega arith)
get-map (q ∷ ps) zero p d h e = ap place_of (sym e)
get-map (q ∷ ps) (suc i) p d h e = get-map ps i p d (omega arith) e

-- whether a place of the program is one of a metavariable
abbrev is_of : MetaOf ℕ → Place → Bool
is_of m x = same_meta nat_eq (meta_of x.meta) m

first-map : (m : MetaOf ℕ) (ps : List Place) → position_or_len (is_of m) ps ≡ position_or_len (λ y. same_meta nat_eq y.meta m) (map place_of ps)
first-map m [] = refl
first-map m (p ∷ ps) = ap (λ n. cond (not (is_of m p)) (1 + n) 0) (first-map m ps)

at_most : (m : MetaOf ℕ) (ps : List Place) → position_or_len (is_of m) ps ≤ length ps
at_most m [] = omega arith
at_most m (p ∷ ps) = by (is_of m p) (at_most m ps)
  where
    by : (b : Bool) → position_or_len (is_of m) ps ≤ length ps → cond (not b) (1 + position_or_len (is_of m) ps) 0 ≤ length (p ∷ ps)
    by true h = omega arith
    by false h = omega (arith, h)

first_is : (m : MetaOf ℕ) (ps : List Place) (n : ℕ) → n ≡ unwrap_or (position (is_of m) ps) (length ps) → n ≡ position_or_len (λ y. same_meta nat_eq y.meta m) (map place_of ps)
first_is m ps n e = e ∙ by (ltb (position_or_len (is_of m) ps) (length ps)) refl ∙ first-map m ps
  where
    by : (b : Bool) → ltb (position_or_len (is_of m) ps) (length ps) ≡ b → unwrap_or (cond b (Some (position_or_len (is_of m) ps)) None) (length ps) ≡ position_or_len (is_of m) ps
    by true t = refl
    by false t = let past : length ps ≤ position_or_len (is_of m) ps = ltb-false (position_or_len (is_of m) ps) (length ps) t in let most : position_or_len (is_of m) ps ≤ length ps = at_most m ps in omega (arith, past, most)

module _ (ps : List Place) (i : ℕ) (p : Place) (h : i < length ps) (is : p ≡ get_or ps i p) (n : ℕ) (first : n ≡ unwrap_or (position (is_of (meta_of p.meta)) ps) (length ps)) where
  there : get_or (map place_of ps) i no_place ≡ place_of p
  there = get-map ps i p no_place h is

  within : i < length (map place_of ps)
  within = let e : length (map place_of ps) ≡ length ps = length-map ps in omega (arith, e, h)

  at : n ≡ position_or_len (λ y. same_meta nat_eq y.meta (meta_of p.meta)) (map place_of ps)
  at = first_is (meta_of p.meta) ps n first

  pub place_at : get_or (map place_of ps) i no_place ≡ place_of p
  place_at = there

  pub places_within : i < length (map place_of ps)
  places_within = within

  pub first_number : n ≡ position_or_len (λ y. same_meta nat_eq y.meta (meta_of p.meta)) (map place_of ps)
  first_number = at

  -- it is its own first place
  pub own_first : (n < i → ⊥) → IsFirst (map place_of ps) (get_or (map place_of ps) i no_place)
  own_first late =
      let same : same_meta nat_eq (get_or (map place_of ps) i no_place).meta (meta_of p.meta) ≡ true = ap (λ (x : PlaceOf ℕ). same_meta nat_eq x.meta (meta_of p.meta)) there ∙ meta_refl nat_eq number_refl number_told (meta_of p.meta) in
      let before : n ≤ i = first_before (meta_of p.meta) (map place_of ps) n i no_place at within same in
      let not_less : i ≤ n = omega (arith, late) in
      let here : n ≡ i = omega (arith, before, not_less) in
      subst (IsFirst (map place_of ps)) (sym there)
      (ap bare_bound (first_at (meta_of p.meta) (map place_of ps) n no_place at (omega (arith, here, within)) ∙ ap (λ k. (get_or (map place_of ps) k no_place).bound) here ∙ ap (λ (x : PlaceOf ℕ). x.bound) there))

  -- it is compared with the first place
  pub as_first : (q : Place) (b : Bool) → n < i → q ≡ get_or ps n q → IsTrue b ↔ (bare_bound (bound_from q.bound) ≡ bare_bound (bound_from p.bound)) → IsTrue b ↔ IsFirst (map place_of ps) (get_or (map place_of ps) i no_place)
  as_first q b less where_q told =
      let stands : first_bound (map place_of ps) (meta_of p.meta) ≡ bound_from q.bound =
      first_at (meta_of p.meta) (map place_of ps) n no_place at (omega (arith, less, within)) ∙ ap (λ (x : PlaceOf ℕ). x.bound) (get-map ps n q no_place (omega (arith, less, h)) where_q) in
      subst (λ (x : PlaceOf ℕ). IsTrue b ↔ IsFirst (map place_of ps) x) (sym there)
      (subst (λ (d : BoundOf ℕ). IsTrue b ↔ (bare_bound d ≡ bare_bound (bound_from p.bound))) (sym stands) told)

module _ (xs : List (PlaceOf ℕ)) where
  -- one more place is looked at
  pub agree_more : (i : ℕ) → i < length xs → IsFirst xs (get_or xs i no_place) → (AllByRecursion (IsFirst xs) (drop i xs) → AllByRecursion (IsFirst xs) xs) → AllByRecursion (IsFirst xs) (drop (i + 1) xs) → AllByRecursion (IsFirst xs) xs
  agree_more i h one so_far rest = so_far (subst (AllByRecursion (IsFirst xs)) (sym (drop_more xs i no_place h)) (one, rest))

  -- it is another one
  pub agree_fails : (i : ℕ) → i < length xs → (IsFirst xs (get_or xs i no_place) → ⊥) → false ≡ agrees xs
  agree_fails i h other = by (agrees xs) refl
    where
      at_number : (ys : List (PlaceOf ℕ)) (k : ℕ) → k < length ys → AllByRecursion (IsFirst xs) ys → IsFirst xs (get_or ys k no_place)
      at_number [] k l g = absurd (omega arith)
      at_number (y ∷ ys) zero l g = g.0
      at_number (y ∷ ys) (suc k) l g = at_number ys k (omega arith) g.1

      by : (b : Bool) → agrees xs ≡ b → false ≡ b
      by true e = absurd (other (at_number xs i h (all_first xs e)))
      by false e = refl

  -- all places are looked at
  pub agree_ends : (i : ℕ) → length xs ≤ i → (AllByRecursion (IsFirst xs) (drop i xs) → AllByRecursion (IsFirst xs) xs) → true ≡ agrees xs
  agree_ends i end so_far = sym (first_all xs (so_far (subst (AllByRecursion (IsFirst xs)) (sym (drop_all i xs end)) tt)))

pub count_places : (ps : List Place) → length (map place_of ps) ≡ length ps
count_places ps = length-map ps
