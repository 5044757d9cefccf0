-- The bindings that the places of a match make.
use Rattle.std.proofs.Common.{◌≡◌, refl, sym, ap, subst, ◌∙◌, ℕ, List, [], ◌∷◌, map}
use Rattle.std.specs.Prelude.{Bool, true, false, not, ◌||◌, cond, filter}
use Rattle.std.specs.List.{AllByRecursion, list_all, list_any}
use Rattle.std.proofs.lemmas.Bool.{false≢true, and_parts, and_from}
use Rattle.rb_base.specs.Names.{text_eq}
use Rattle.rb_base.proofs.NamesLemmas.{text_eq-refl}
use Rattle.pattern_model.specs.Patterns.{MetaOf}
use Rattle.same_trees.specs.SameTrees.{same_trees}
use Rattle.pattern_model.specs.Bindings.{BoundOf, a_part, a_run, a_selector, a_keyword, a_message, bare_bound, BindingOf, bare_binding, same_meta, bound_of, doubled_by, each_once}
use Rattle.pattern_model.specs.Words.{PatternWordsOf, AreWords}
use Rattle.pattern_model.specs.Matches.{is_of_kind}
use Rattle.pattern_model.specs.MatchTree.{PlaceOf, same_bound, agree, bindings_of}
use Rattle.same_trees.proofs.Told.{text_told, tree_told, trees_told, statements_told, tree_same, trees_same, statements_same}
use Rattle.pattern_laws.proofs.Found.{Agrees}
use Rattle.pattern_laws.proofs.Fitting.{metas_of, IsRight}
use Rattle.pattern_laws.proofs.SameMetas.{by_cases, all_kept, all_weaker, meta_refl, meta_told, meta_left, bound_same, AreApart}

module _ {N : Type 0} (w : PatternWordsOf N) (joined : List (List ℕ) → N) (known : AreWords w joined) where
  -- what is the same is equal but for its comments
  bound_told : (a b : BoundOf N) → same_bound w a b ≡ true → bare_bound a ≡ bare_bound b
  bound_told (a_part t) (a_part u) e = ap a_part (tree_told w.tests.same known.told t u e)
  bound_told (a_run ss) (a_run rs) e = ap a_run (statements_told w.tests.same known.told ss rs e)
  bound_told (a_selector s) (a_selector u) e = ap a_selector (known.told s u e)
  bound_told (a_keyword k) (a_keyword l) e = ap a_keyword (text_told k l e)
  bound_told (a_message s ts) (a_message u us) e =
      let h = and_parts (w.tests.same s u) (same_trees w.tests.same ts us) e in
      let a = known.told s u h.0 in
      let b = trees_told w.tests.same known.told ts us h.1 in
      λ i. a_message (a i) (b i)
  bound_told a b e = absurd (false≢true e)

  same_bound_from : (a b : BoundOf N) → bare_bound a ≡ bare_bound b → same_bound w a b ≡ true
  same_bound_from (a_part t) (a_part u) e = tree_same w.tests.same known.refl t u (cc)
  same_bound_from (a_run ss) (a_run rs) e = statements_same w.tests.same known.refl ss rs (cc)
  same_bound_from (a_selector s) (a_selector u) e = let h : s ≡ u = cc in ap (w.tests.same s) (sym h) ∙ known.refl s
  same_bound_from (a_keyword k) (a_keyword l) e = let h : k ≡ l = cc in ap (text_eq k) (sym h) ∙ text_eq-refl k
  same_bound_from (a_message s ts) (a_message u us) e =
      let h : s ≡ u = cc in
      and_from _ _ (ap (w.tests.same s) (sym h) ∙ known.refl s) (trees_same w.tests.same known.refl ts us (cc))
  same_bound_from a b e = let bad : ⊥ = cc in absurd bad

  -- without the bindings of one metavariable another one is bound to the same
  bound_of-others : (m n : MetaOf N) → same_meta w.tests.same m n ≡ false → (bs : List (BindingOf N))
      → bound_of w.tests.same (filter (λ b. not (same_meta w.tests.same m b.meta)) bs) n ≡ bound_of w.tests.same bs n
  bound_of-others m n other [] = refl
  bound_of-others m n other (b ∷ bs) = by (same_meta w.tests.same m b.meta) refl (bound_of-others m n other bs)
    where
      rest : List (BindingOf N)
      rest = filter (λ b. not (same_meta w.tests.same m b.meta)) bs

      by : (t : Bool) → same_meta w.tests.same m b.meta ≡ t → bound_of w.tests.same rest n ≡ bound_of w.tests.same bs n
          → bound_of w.tests.same (cond (not t) (b ∷ rest) rest) n ≡ cond (same_meta w.tests.same b.meta n) b.bound (bound_of w.tests.same bs n)
      by true p h = h ∙ ap (λ (t : Bool). cond t b.bound (bound_of w.tests.same bs n)) (sym other ∙ meta_left w.tests.same known.refl known.told m b.meta n p)
      by false p h = ap (λ (x : BoundOf N). cond (same_meta w.tests.same b.meta n) b.bound x) h

  -- the places behind the first one, where they agree with it
  agreed_behind : (x : PlaceOf N) (b : BindingOf N) → ((n : MetaOf N) → same_meta w.tests.same x.meta n ≡ true → same_meta w.tests.same b.meta n ≡ true) → ((n : MetaOf N) → same_meta w.tests.same x.meta n ≡ false → same_meta w.tests.same b.meta n ≡ false) → b.bound ≡ x.bound
      → (bs : List (BindingOf N)) (ys : List (PlaceOf N))
      → list_all (λ y. not (same_meta w.tests.same x.meta y.meta) || same_bound w x.bound y.bound) ys ≡ true
      → AllByRecursion (Agrees (bound_of w.tests.same bs)) ys
      → AllByRecursion (Agrees (bound_of w.tests.same (b ∷ filter (λ b. not (same_meta w.tests.same x.meta b.meta)) bs))) ys
  agreed_behind x b is isnt e bs [] h a = tt
  agreed_behind x b is isnt e bs (y ∷ ys) h a =
      let g = and_parts (not (same_meta w.tests.same x.meta y.meta) || same_bound w x.bound y.bound) (list_all (λ y. not (same_meta w.tests.same x.meta y.meta) || same_bound w x.bound y.bound) ys) h in
      let others : List (BindingOf N) = filter (λ b. not (same_meta w.tests.same x.meta b.meta)) bs in (
        by_cases (same_meta w.tests.same x.meta y.meta)
            (λ p.
            let found : bound_of w.tests.same (b ∷ others) y.meta ≡ b.bound = ap (λ (t : Bool). cond t b.bound (bound_of w.tests.same others y.meta)) (is y.meta p) in
            let equal : same_bound w x.bound y.bound ≡ true = ap (λ (t : Bool). not t || same_bound w x.bound y.bound) (sym p) ∙ g.0 in
            ap bare_bound (found ∙ e) ∙ bound_told x.bound y.bound equal)
            (λ p.
            let found : bound_of w.tests.same (b ∷ others) y.meta ≡ bound_of w.tests.same others y.meta = ap (λ (t : Bool). cond t b.bound (bound_of w.tests.same others y.meta)) (isnt y.meta p) in
            ap bare_bound (found ∙ bound_of-others x.meta y.meta p bs) ∙ a.0),
        agreed_behind x b is isnt e bs ys g.1 a.1,
      )

  -- where equal parts stand at all places of one metavariable, each is bound to what stands at its places
  pub gathered : (xs : List (PlaceOf N)) → agree w xs ≡ true → AllByRecursion (Agrees (bound_of w.tests.same (bindings_of w xs))) xs
  gathered [] e = tt
  gathered (x ∷ xs) e =
      let g = and_parts (list_all (λ y. not (same_meta w.tests.same x.meta y.meta) || same_bound w x.bound y.bound) xs) (agree w xs) e in
      let b : BindingOf N = record { meta = doubled_by w.tests.same (map (λ (y : PlaceOf N). y.meta) xs) x.meta; bound = x.bound } in
      let others : List (BindingOf N) = filter (λ b. not (same_meta w.tests.same x.meta b.meta)) (bindings_of w xs) in
      let found : bound_of w.tests.same (b ∷ others) x.meta ≡ x.bound = ap (λ (t : Bool). cond t x.bound (bound_of w.tests.same others x.meta)) (meta_refl w.tests.same known.refl known.told x.meta) in
      (ap bare_bound found, agreed_behind x b (λ n p. p) (λ n p. p) refl (bindings_of w xs) xs g.0 (gathered xs g.1))

  -- what agrees with a place is the same at another place of the metavariable
  agrees_with : (bs : List (BindingOf N)) (x : PlaceOf N) → Agrees (bound_of w.tests.same bs) x → (ys : List (PlaceOf N)) → AllByRecursion (Agrees (bound_of w.tests.same bs)) ys
      → list_all (λ y. not (same_meta w.tests.same x.meta y.meta) || same_bound w x.bound y.bound) ys ≡ true
  agrees_with bs x a [] h = refl
  agrees_with bs x a (y ∷ ys) h =
      and_from _ _
      (by_cases (same_meta w.tests.same x.meta y.meta)
      (λ p.
      let equal = sym a ∙ (ap bare_bound (bound_same w.tests.same known.refl known.told bs x.meta y.meta p) ∙ h.0) in
      ap (λ (t : Bool). not t || same_bound w x.bound y.bound) p ∙ same_bound_from x.bound y.bound equal)
      (λ p. ap (λ (t : Bool). not t || same_bound w x.bound y.bound) p))
      (agrees_with bs x a ys h.1)

  -- where some bindings agree with the places, equal parts stand at all places of one metavariable
  pub agree_all : (bs : List (BindingOf N)) (xs : List (PlaceOf N)) → AllByRecursion (Agrees (bound_of w.tests.same bs)) xs → agree w xs ≡ true
  agree_all bs [] h = refl
  agree_all bs (x ∷ xs) h = and_from _ _ (agrees_with bs x h.0 xs h.1) (agree_all bs xs h.1)

  -- the metavariables of bindings
  abbrev pub metas_bound : List (BindingOf N) → List (MetaOf N)
  metas_bound bs = map (λ b. b.meta) bs

  metas_kept : (test : MetaOf N → Bool) (bs : List (BindingOf N)) → metas_bound (filter (λ b. test b.meta) bs) ≡ filter test (metas_bound bs)
  metas_kept test [] = refl
  metas_kept test (b ∷ bs) = by (test b.meta) (metas_kept test bs)
    where
      by : (t : Bool) → metas_bound (filter (λ b. test b.meta) bs) ≡ filter test (metas_bound bs)
          → metas_bound (cond t (b ∷ filter (λ b. test b.meta) bs) (filter (λ b. test b.meta) bs)) ≡ cond t (b.meta ∷ filter test (metas_bound bs)) (filter test (metas_bound bs))
      by true h = ap (λ (ms : List (MetaOf N)). b.meta ∷ ms) h
      by false h = h

  metas_of-map : (xs : List (PlaceOf N)) → map (λ (y : PlaceOf N). y.meta) xs ≡ metas_of xs
  metas_of-map [] = refl
  metas_of-map (x ∷ xs) = ap (λ (ms : List (MetaOf N)). x.meta ∷ ms) (metas_of-map xs)

  -- each metavariable of the places is bound once
  pub gathered_once : (xs : List (PlaceOf N)) → metas_bound (bindings_of w xs) ≡ each_once w.tests.same (metas_of xs)
  gathered_once [] = refl
  gathered_once (x ∷ xs) =
      let others = metas_kept (λ n. not (same_meta w.tests.same x.meta n)) (bindings_of w xs) ∙ ap (filter (λ n. not (same_meta w.tests.same x.meta n))) (gathered_once xs) in
      λ i. doubled_by w.tests.same (metas_of-map xs i) x.meta ∷ others i

  -- in its kind
  pub gathered_right : (xs : List (PlaceOf N)) → AllByRecursion (IsRight w) xs → AllByRecursion (λ b. is_of_kind w b.meta.kind b.bound ≡ true) (bindings_of w xs)
  gathered_right [] h = tt
  gathered_right (x ∷ xs) h =
      (h.0, all_kept (λ b. is_of_kind w b.meta.kind b.bound ≡ true) (λ b. not (same_meta w.tests.same x.meta b.meta)) (bindings_of w xs) (gathered_right xs h.1))

  -- what is bound among bindings in their kinds is in its kind
  pub bound_right : (bs : List (BindingOf N)) → AllByRecursion (λ b. is_of_kind w b.meta.kind b.bound ≡ true) bs → (m : MetaOf N) → list_any (λ n. same_meta w.tests.same n m) (metas_bound bs) ≡ true
      → is_of_kind w m.kind (bound_of w.tests.same bs m) ≡ true
  bound_right [] h m e = absurd (false≢true e)
  bound_right (b ∷ bs) h m e = by (same_meta w.tests.same b.meta m) refl e (λ g. bound_right bs h.1 m g)
    where
      by : (t : Bool) → same_meta w.tests.same b.meta m ≡ t → (t || list_any (λ n. same_meta w.tests.same n m) (metas_bound bs)) ≡ true
          → (list_any (λ n. same_meta w.tests.same n m) (metas_bound bs) ≡ true → is_of_kind w m.kind (bound_of w.tests.same bs m) ≡ true)
          → is_of_kind w m.kind (cond t b.bound (bound_of w.tests.same bs m)) ≡ true
      by true p g f = subst (λ k. is_of_kind w k b.bound ≡ true) (meta_told w.tests.same known.refl known.told b.meta m p).0 h.0
      by false p g f = f g

  -- a metavariable with what is bound to it
  abbrev paired : (MetaOf N → BoundOf N) → MetaOf N → BindingOf N
  paired f m = record { meta = m; bound = f m }

  map_along : (f g : MetaOf N → BoundOf N) (ms : List (MetaOf N)) → AllByRecursion (λ m. f m ≡ g m) ms → map (paired f) ms ≡ map (paired g) ms
  map_along f g [] h = refl
  map_along f g (m ∷ ms) h = let others = map_along f g ms h.1 in λ i. record { meta = m; bound = h.0 i } ∷ others i

  -- bindings of metavariables that are apart are what is bound to each
  by_metas : (bs : List (BindingOf N)) → AreApart w.tests.same known.refl known.told (metas_bound bs)
      → map bare_binding bs ≡ map (paired (λ m. bare_bound (bound_of w.tests.same bs m))) (metas_bound bs)
  by_metas [] h = refl
  by_metas (b ∷ bs) h =
      let others = by_metas bs h.1 ∙ map_along (λ m. bare_bound (bound_of w.tests.same bs m)) (λ m. bare_bound (bound_of w.tests.same (b ∷ bs) m)) (metas_bound bs)
      (all_weaker (λ n. same_meta w.tests.same b.meta n ≡ false) (λ m. bare_bound (bound_of w.tests.same bs m) ≡ bare_bound (bound_of w.tests.same (b ∷ bs) m)) (metas_bound bs)
      (λ n p. ap bare_bound (ap (λ (t : Bool). cond t b.bound (bound_of w.tests.same bs n)) (sym p))) h.0) in
      let first : b.bound ≡ bound_of w.tests.same (b ∷ bs) b.meta = ap (λ (t : Bool). cond t b.bound (bound_of w.tests.same bs b.meta)) (sym (meta_refl w.tests.same known.refl known.told b.meta)) in
      λ i. record { meta = b.meta; bound = bare_bound (first i) } ∷ others i

  -- bindings of the same metavariables, apart, that are bound to the same, are the same but for comments
  pub equal_bindings : (bs cs : List (BindingOf N)) (ms : List (MetaOf N)) → metas_bound bs ≡ ms → metas_bound cs ≡ ms → AreApart w.tests.same known.refl known.told ms
      → AllByRecursion (λ m. bare_bound (bound_of w.tests.same bs m) ≡ bare_bound (bound_of w.tests.same cs m)) ms
      → map bare_binding bs ≡ map bare_binding cs
  equal_bindings bs cs ms b c apart h =
      by_metas bs (subst (AreApart w.tests.same known.refl known.told) (sym b) apart)
      ∙ (ap (map (paired (λ m. bare_bound (bound_of w.tests.same bs m)))) b
      ∙ (map_along (λ m. bare_bound (bound_of w.tests.same bs m)) (λ m. bare_bound (bound_of w.tests.same cs m)) ms h
      ∙ (ap (map (paired (λ m. bare_bound (bound_of w.tests.same cs m)))) (sym c)
      ∙ sym (by_metas cs (subst (AreApart w.tests.same known.refl known.told) (sym c) apart)))))
