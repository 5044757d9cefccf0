-- Contexts in which each name but one means what it means after.
use Rattle.std.proofs.Common.{◌≡◌, ℕ, ◌+◌, List, [], ◌∷◌, ◌++◌, length, Option, Some, None, refl, sym, ap, ◌∙◌, subst, arith, append-nil}
use Rattle.std.specs.Prelude.{Bool, true, false, not, cond, if◌then◌else◌, find, replicate, slice_get, option_map, map}
use Rattle.std.proofs.lemmas.Bool.{false≢true}
use Rattle.std.proofs.lemmas.Option.{slice_get-map}
use Rattle.std.proofs.Math.Numerals.{one-add}
use Rattle.rb_base.specs.Names.{text_eq}
use Rattle.rb_base.proofs.NamesLemmas.{text_eq-refl}
use Rattle.scope_model.specs.SpecialNames.{is_pseudo_variable}
use Rattle.image_model.specs.Means.{MeaningOf}
use Rattle.image_model.proofs.Ends.{slice_get-front}
use Rattle.run_model.specs.Values.{Name}
use Rattle.run_model.proofs.RenamingLemmas.{text-same}
use Rattle.resolved_model.specs.ResolvedTrees.{of_word, to_fixed, ResolvedTree, reading, assigning}
use Rattle.resolved_model.specs.ResolvedImages.{ResolvedImage}
use Rattle.resolved_model.specs.Environments.{Declared, as_temporary, opened, kind_in, place_in, reference_by, target_by, reference_in, target_in}
use Rattle.unfolded_calls.specs.Unfolding.{Allowed, StandIn, a_temporary, a_dropped, an_argument, shared, staying, moved, farther, staying_in, arguments_from, temporaries_from, Context, scoped, in_closure, with_local, Unfolds, same_local, same_reading, same_temporary, same_assignment}
use Rattle.unfolded_calls.specs.SameContexts.{same_local_at, same_locals, IsOutside}
use Rattle.unfolded_calls.proofs.Memories.{elsewhere}
use Rattle.unfolded_calls.proofs.Untouched.{locals-opened, local-at, moved-one, farther-one}
use Rattle.unfolded_places.proofs.NamesThere.{kind-first, kind-behind, get-behind, get-moved, locals-count, opened-count, opened-append}
use Rattle.unfolded_places.proofs.PlainThere.{read-outer, target-outer}

-- two declared names that stand at one place are one
pub one-place : (A : List Declared) (n x : Name) (b c : Bool) → kind_in A n ≡ Some b → kind_in A x ≡ Some c → place_in A n ≡ place_in A x → text_eq n x ≡ true
one-place [] n x b c e q p = absurd (cc)
one-place (d ∷ A) n x b c e q p = by (text_eq n d.name) (text_eq x d.name) refl refl e q p (one-place A n x b c)
  where
    same : (y : Name) → text_eq n y ≡ true → text_eq x y ≡ true → text_eq n x ≡ true
    same y k l = ap (λ z. text_eq z x) (text-same n y k ∙ sym (text-same x y l)) ∙ text_eq-refl x

    here : (k : ℕ) → 1 + k ≡ 0 → ⊥
    here k z = omega (arith, z)

    less : (k l : ℕ) → 1 + k ≡ 1 + l → k ≡ l
    less k l z = omega (arith, z)

    by : (k l : Bool) → text_eq n d.name ≡ k → text_eq x d.name ≡ l →
        option_map (λ (d : Declared). d.is_temporary) (cond k (Some d) (find (λ (d : Declared). text_eq n d.name) A)) ≡ Some b →
        option_map (λ (d : Declared). d.is_temporary) (cond l (Some d) (find (λ (d : Declared). text_eq x d.name) A)) ≡ Some c →
        cond (not k) (1 + place_in A n) 0 ≡ cond (not l) (1 + place_in A x) 0 → (kind_in A n ≡ Some b → kind_in A x ≡ Some c → place_in A n ≡ place_in A x → text_eq n x ≡ true) → text_eq n x ≡ true
    by true true k l e q p ih = same d.name k l
    by true false k l e q p ih = absurd (here (place_in A x) (sym p))
    by false true k l e q p ih = absurd (here (place_in A n) p)
    by false false k l e q p ih = ih e q (less (place_in A n) (place_in A x) p)

-- locals that stay, of which no further one is dropped
staying-one : (b : Bool) (k : ℕ) → staying_in (same_local_at b k) ≡ same_local_at b k
staying-one true k = refl
staying-one false k = refl

pub get-mapped : (f : StandIn → StandIn) (locals : List StandIn) (k : ℕ) (a b : StandIn) → slice_get locals k ≡ Some a → f a ≡ b → slice_get (map f locals) k ≡ Some b
get-mapped f locals k a b e q = slice_get-map f locals k ∙ ap (option_map f) e ∙ ap Some q

-- the locals of a scope itself
pub own-locals : (ps ts : List Name) → arguments_from (length ps) 0 ++ temporaries_from (replicate (length ts) shared) (length ps) ≡ same_locals (opened ps ts []) 0
own-locals ps ts = sym (append-nil (arguments_from (length ps) 0 ++ temporaries_from (replicate (length ts) shared) (length ps))) ∙ locals-opened ps ts []

pub own-count : (ps ts : List Name) → length ps + staying (replicate (length ts) shared) ≡ length (opened ps ts [])
own-count ps ts = none (length ps + staying (replicate (length ts) shared)) ∙ opened-count ps ts []
  where
    none : (k : ℕ) → k ≡ k + 0
    none k = omega arith

none-at : (k : ℕ) → 0 + k ≡ k
none-at k = omega arith

module _ (x : Name) where
  -- each name but x is declared alike in both lists, and the context has it at its place after
  pub record Lets (g : Context) (A B : List Declared) : Type 0 where
    pub kinds : (n : Name) → text_eq n x ≡ false → kind_in A n ≡ kind_in B n
    pub there : (n : Name) (b : Bool) → text_eq n x ≡ false → kind_in A n ≡ Some b → slice_get g.locals (place_in A n) ≡ Some (same_local_at b (place_in B n))
    pub returns : g.returns ≡ true
    pub supers : g.supers ≡ true

  -- inside further declarations
  lets-inside : (own : List Declared) (g g' : Context) (A B : List Declared) → g'.locals ≡ same_locals own 0 ++ map (moved (length own)) g.locals → g'.returns ≡ true → g'.supers ≡ true → Lets g A B → Lets g' (own ++ A) (own ++ B)
  lets-inside own g g' A B e r s h = record {
    kinds = λ n ne. by n ne (kind_in own n) refl;
    there = λ n b ne q. at n b ne q (kind_in own n) refl;
    returns = r;
    supers = s;
  }
    where
      by : (n : Name) → text_eq n x ≡ false → (o : Option Bool) → kind_in own n ≡ o → kind_in (own ++ A) n ≡ kind_in (own ++ B) n
      by n ne (Some b) q = (kind-first own A n b q).0 ∙ sym (kind-first own B n b q).0
      by n ne None q = (kind-behind own A n q).0 ∙ h.kinds n ne ∙ sym (kind-behind own B n q).0

      some : {c b : Bool} → Some c ≡ Some b → c ≡ b
      some z = cc

      at : (n : Name) (b : Bool) → text_eq n x ≡ false → kind_in (own ++ A) n ≡ Some b → (o : Option Bool) → kind_in own n ≡ o → slice_get g'.locals (place_in (own ++ A) n) ≡ Some (same_local_at b (place_in (own ++ B) n))
      at n b ne k (Some c) q =
          let first = kind-first own A n c q in
          let second = kind-first own B n c q in
          ap (λ l. slice_get l (place_in (own ++ A) n)) e
          ∙ ap (slice_get (same_locals own 0 ++ map (moved (length own)) g.locals)) first.1
          ∙ slice_get-front (same_locals own 0) (map (moved (length own)) g.locals) (place_in own n) (same_local_at c (place_in own n)) (local-at own n c 0 q ∙ ap (λ j. Some (same_local_at c j)) (none-at (place_in own n)))
          ∙ (λ j. Some (same_local_at (some (sym first.0 ∙ k) j) (sym second.1 j)))
      at n b ne k None q =
          let first = kind-behind own A n q in
          let second = kind-behind own B n q in
          ap (λ l. slice_get l (place_in (own ++ A) n)) e
          ∙ ap (slice_get (same_locals own 0 ++ map (moved (length own)) g.locals)) first.1
          ∙ get-behind (same_locals own 0) (map (moved (length own)) g.locals) (length own) (place_in A n) (locals-count own 0)
          ∙ get-moved (length own) g.locals (place_in A n) (same_local_at b (place_in B n)) (h.there n b ne (sym first.0 ∙ k))
          ∙ ap Some (moved-one b (length own) (place_in B n) ∙ ap (same_local_at b) (sym second.1))

  pub lets-scoped : (g : Context) (A B : List Declared) (ps ts : List Name) → Lets g A B → Lets (scoped (length ps) (replicate (length ts) shared) g) (opened ps ts A) (opened ps ts B)
  lets-scoped g A B ps ts h =
      subst (λ C. Lets (scoped (length ps) (replicate (length ts) shared) g) C (opened ps ts B)) (sym (opened-append ps ts [] A))
      (subst (λ C. Lets (scoped (length ps) (replicate (length ts) shared) g) (opened ps ts [] ++ A) C) (sym (opened-append ps ts [] B))
      (lets-inside (opened ps ts []) g (scoped (length ps) (replicate (length ts) shared) g) A B (λ j. own-locals ps ts j ++ map (moved (own-count ps ts j)) g.locals) h.returns h.supers h))

  pub lets-closed : (g : Context) (A B : List Declared) → Lets g A B → Lets (in_closure g) A B
  lets-closed g A B h = record {
    kinds = h.kinds;
    there = λ n b ne e. get-mapped farther g.locals (place_in A n) (same_local_at b (place_in B n)) (same_local_at b (place_in B n)) (h.there n b ne e) (farther-one b (place_in B n));
    returns = h.returns;
    supers = h.supers;
  }

  -- behind the statement that sets x
  pub lets-set : (g : Context) (A B : List Declared) (a : StandIn) → kind_in A x ≡ Some true → Lets g A B → Lets (with_local (place_in A x) a g) A B
  lets-set g A B a k h = record {
    kinds = h.kinds;
    there = λ n b ne e.
        elsewhere (map staying_in g.locals) (place_in A x) (place_in A n) a (λ z. false≢true (sym ne ∙ one-place A n x b true e k (sym z)))
        ∙ get-mapped staying_in g.locals (place_in A n) (same_local_at b (place_in B n)) (same_local_at b (place_in B n)) (h.there n b ne e) (staying-one b (place_in B n));
    returns = h.returns;
    supers = h.supers;
  }

  module _ (i : ResolvedImage) (gone : Allowed) (f : Name → MeaningOf Name) (outside : (n : Name) → IsOutside (f n)) where
    -- another name is read
    pub reading-lets : (g : Context) (A B : List Declared) (n : Name) → text_eq n x ≡ false → Lets g A B → Unfolds i gone g (reading (reference_in A (f n) n)) (reading (reference_in B (f n) n))
    reading-lets g A B n ne h =
        subst (λ o. Unfolds i gone g (reading (reference_in A (f n) n)) (reading (if is_pseudo_variable n then of_word n else reference_by o (place_in B n) (f n) n))) (h.kinds n ne) (by (is_pseudo_variable n) (kind_in A n) refl)
      where
        by : (b : Bool) (o : Option Bool) → kind_in A n ≡ o → Unfolds i gone g (reading (if b then of_word n else reference_by o (place_in A n) (f n) n)) (reading (if b then of_word n else reference_by o (place_in B n) (f n) n))
        by true o e = same_reading (of_word n) tt
        by false (Some true) e = same_local (place_in A n) (a_temporary (place_in B n)) (h.there n true ne e) tt
        by false (Some false) e = same_local (place_in A n) (an_argument (place_in B n)) (h.there n false ne e) tt
        by false None e = read-outer i gone g (f n) (place_in A n) (place_in B n) n (outside n)

    -- and assigned
    pub assigning-lets : (g : Context) (A B : List Declared) (n : Name) (t t' : ResolvedTree) → text_eq n x ≡ false → Lets g A B → Unfolds i gone g t t' → Unfolds i gone g (assigning (target_in A (f n) n) t) (assigning (target_in B (f n) n) t')
    assigning-lets g A B n t t' ne h r =
        subst (λ o. Unfolds i gone g (assigning (target_in A (f n) n) t) (assigning (if is_pseudo_variable n then to_fixed n else target_by o (place_in B n) (f n) n) t')) (h.kinds n ne) (by (is_pseudo_variable n) (kind_in A n) refl)
      where
        by : (b : Bool) (o : Option Bool) → kind_in A n ≡ o → Unfolds i gone g (assigning (if b then to_fixed n else target_by o (place_in A n) (f n) n) t) (assigning (if b then to_fixed n else target_by o (place_in B n) (f n) n) t')
        by true o e = same_assignment (to_fixed n) tt r
        by false (Some true) e = same_temporary (place_in A n) (place_in B n) (h.there n true ne e) r
        by false (Some false) e = same_assignment (to_fixed n) tt r
        by false None e = target-outer i gone g (f n) (place_in A n) (place_in B n) n (outside n) r

  -- where x is declared between other names
  module _ (xs ys : List Declared) (alone : kind_in (xs ++ ys) x ≡ None) where
    abbrev With : List Declared
    With = xs ++ as_temporary x ∷ ys

    none-first : kind_in xs x ≡ None
    none-first = by (kind_in xs x) refl
      where
        none : {b : Bool} → Some b ≡ None → ⊥
        none z = cc

        by : (o : Option Bool) → kind_in xs x ≡ o → kind_in xs x ≡ None
        by None e = e
        by (Some b) e = absurd (none (sym (kind-first xs ys x b e).0 ∙ alone))

    pub x-kind : kind_in With x ≡ Some true
    x-kind = (kind-behind xs (as_temporary x ∷ ys) x none-first).0 ∙ ap (λ b. option_map (λ (d : Declared). d.is_temporary) (cond b (Some (as_temporary x)) (find (λ (d : Declared). text_eq x d.name) ys))) (text_eq-refl x)

    x-place : place_in With x ≡ length xs + 0
    x-place = (kind-behind xs (as_temporary x ∷ ys) x none-first).1 ∙ ap (λ b. length xs + cond (not b) (1 + place_in ys x) 0) (text_eq-refl x)

    pub x-dropped : (g : Context) → g.locals ≡ same_locals xs 0 ++ a_dropped ∷ same_locals ys (length xs) → slice_get g.locals (place_in With x) ≡ Some a_dropped
    x-dropped g e = ap (λ l. slice_get l (place_in With x)) e ∙ ap (slice_get (same_locals xs 0 ++ a_dropped ∷ same_locals ys (length xs))) x-place ∙ get-behind (same_locals xs 0) (a_dropped ∷ same_locals ys (length xs)) (length xs) 0 (locals-count xs 0)

    pub lets-between : (g : Context) → g.locals ≡ same_locals xs 0 ++ a_dropped ∷ same_locals ys (length xs) → g.returns ≡ true → g.supers ≡ true → Lets g With (xs ++ ys)
    lets-between g e r s = record {
      kinds = λ n ne. by n ne (kind_in xs n) refl;
      there = λ n b ne k. at n b ne k (kind_in xs n) refl;
      returns = r;
      supers = s;
    }
      where
        next-kind : (n : Name) → text_eq n x ≡ false → kind_in (as_temporary x ∷ ys) n ≡ kind_in ys n
        next-kind n ne = ap (λ b. option_map (λ (d : Declared). d.is_temporary) (cond b (Some (as_temporary x)) (find (λ (d : Declared). text_eq n d.name) ys))) ne

        next-place : (n : Name) → text_eq n x ≡ false → place_in (as_temporary x ∷ ys) n ≡ 1 + place_in ys n
        next-place n ne = ap (λ b. cond (not b) (1 + place_in ys n) 0) ne

        some : {c b : Bool} → Some c ≡ Some b → c ≡ b
        some z = cc

        by : (n : Name) → text_eq n x ≡ false → (o : Option Bool) → kind_in xs n ≡ o → kind_in With n ≡ kind_in (xs ++ ys) n
        by n ne (Some b) q = (kind-first xs (as_temporary x ∷ ys) n b q).0 ∙ sym (kind-first xs ys n b q).0
        by n ne None q = (kind-behind xs (as_temporary x ∷ ys) n q).0 ∙ next-kind n ne ∙ sym (kind-behind xs ys n q).0

        at : (n : Name) (b : Bool) → text_eq n x ≡ false → kind_in With n ≡ Some b → (o : Option Bool) → kind_in xs n ≡ o → slice_get g.locals (place_in With n) ≡ Some (same_local_at b (place_in (xs ++ ys) n))
        at n b ne k (Some c) q =
            let first = kind-first xs (as_temporary x ∷ ys) n c q in
            let second = kind-first xs ys n c q in
            ap (λ l. slice_get l (place_in With n)) e
            ∙ ap (slice_get (same_locals xs 0 ++ a_dropped ∷ same_locals ys (length xs))) first.1
            ∙ slice_get-front (same_locals xs 0) (a_dropped ∷ same_locals ys (length xs)) (place_in xs n) (same_local_at c (place_in xs n)) (local-at xs n c 0 q ∙ ap (λ j. Some (same_local_at c j)) (none-at (place_in xs n)))
            ∙ (λ j. Some (same_local_at (some (sym first.0 ∙ k) j) (sym second.1 j)))
        at n b ne k None q =
            let first = kind-behind xs (as_temporary x ∷ ys) n q in
            let second = kind-behind xs ys n q in
            ap (λ l. slice_get l (place_in With n)) e
            ∙ ap (slice_get (same_locals xs 0 ++ a_dropped ∷ same_locals ys (length xs))) (first.1 ∙ ap (λ k. length xs + k) (next-place n ne))
            ∙ get-behind (same_locals xs 0) (a_dropped ∷ same_locals ys (length xs)) (length xs) (1 + place_in ys n) (locals-count xs 0)
            ∙ ap (slice_get (a_dropped ∷ same_locals ys (length xs))) (one-add (place_in ys n))
            ∙ local-at ys n b (length xs) (sym (next-kind n ne) ∙ sym first.0 ∙ k)
            ∙ ap (λ k. Some (same_local_at b k)) (sym second.1)
