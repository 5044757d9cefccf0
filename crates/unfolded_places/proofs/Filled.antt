-- A body with what is passed in place of its arguments is what it unfolds to.
use Rattle.std.proofs.Common.{◌≡◌, ℕ, ◌+◌, List, [], ◌++◌, length, map, Some, None, refl, sym, ap, ◌∙◌, subst, arith, append_assoc}
use Rattle.std.specs.Prelude.{Bool, true, false, replicate, slice_get}
use Rattle.std.proofs.lemmas.List.{map-append, append_cancel_right}
use Rattle.tree_model.specs.Tree.{TreeOf}
use Rattle.image_model.specs.Means.{MeaningOf}
use Rattle.image_model.proofs.Ends.{slice_get-front}
use Rattle.run_model.specs.Values.{Name}
use Rattle.resolved_model.specs.ResolvedTrees.{of_word, of_local, ResolvedTree, reading, assigning}
use Rattle.resolved_model.specs.ResolvedImages.{ResolvedImage}
use Rattle.resolved_model.specs.ResolvedShapes.{plain_code}
use Rattle.resolved_model.specs.Resolving.{reference_of, target_of}
use Rattle.resolved_model.specs.Environments.{Declared, opened, kind_in, place_in, target_by, reference_in, target_in, tree_in}
use Rattle.unfolded_calls.specs.Unfolding.{Allowed, shared, staying, StandIn, an_argument, a_temporary, moved, farther, arguments_from, temporaries_from, Context, scoped, in_closure, opened as opened_context, Unfolds, same_local, same_reading, same_temporary, same_assignment}
use Rattle.unfolded_calls.specs.SameContexts.{same_local_at, same_locals, IsOutside}
use Rattle.unfolded_calls.proofs.Untouched.{locals-farther, locals-opened, local-at}
use Rattle.unfolded_places.specs.Inlining.{PlainActuals, Filling, FilledPart, filled_word, filled_inner, filled_formal, filled_outer, FilledTarget, target_inner, target_outer, filling}
use Rattle.unfolded_places.proofs.ShapePairs.{open-pair}
use Rattle.unfolded_places.proofs.Congruence.{ControlLaw, IsKept}
use Rattle.unfolded_places.proofs.PlainThere.{plains-far, plains-moved, plains-still, plain-inside, read-outer, target-outer}
use Rattle.unfolded_places.proofs.NamesThere.{word-read, local-read, outer-read, known-target, kind-first, kind-behind, get-behind, locals-count, get-moved, opened-count, passed-at, opened-append}

module _ (i : ResolvedImage) (gone : Allowed) (z : Filling) (supers : Bool) (outside : (n : Name) → IsOutside (z.before n)) (actuals : List StandIn) (plains : PlainActuals z.after z.round z.passed actuals) where
  abbrev Formals : List Declared
  Formals = opened z.arguments [] []

  -- inside blocks of the body
  pub record IsFilled (g : Context) (A B : List Declared) : Type 0 where
    pub inner : List Declared
    pub before : A ≡ inner ++ Formals
    pub after : B ≡ inner ++ z.round
    pub locals : g.locals ≡ same_locals inner 0 ++ map (moved (length inner)) actuals
    pub above : g.supers ≡ supers

  filled-scoped : (g : Context) (A B : List Declared) (ps ts : List Name) → IsFilled g A B → IsFilled (scoped (length ps) (replicate (length ts) shared) g) (opened ps ts A) (opened ps ts B)
  filled-scoped g A B ps ts h = record {
    inner = opened ps ts h.inner;
    before = ap (opened ps ts) h.before ∙ opened-append ps ts h.inner Formals;
    after = ap (opened ps ts) h.after ∙ opened-append ps ts h.inner z.round;
    locals =
        ap (λ l. (arguments_from (length ps) 0 ++ temporaries_from (replicate (length ts) shared) (length ps)) ++ map (moved (length ps + staying (replicate (length ts) shared))) l) h.locals
        ∙ ap (λ l. (arguments_from (length ps) 0 ++ temporaries_from (replicate (length ts) shared) (length ps)) ++ l) (map-append (moved (length ps + staying (replicate (length ts) shared))) (same_locals h.inner 0) (map (moved (length h.inner)) actuals))
        ∙ sym (append_assoc (arguments_from (length ps) 0 ++ temporaries_from (replicate (length ts) shared) (length ps)) (map (moved (length ps + staying (replicate (length ts) shared))) (same_locals h.inner 0)) (map (moved (length ps + staying (replicate (length ts) shared))) (map (moved (length h.inner)) actuals)))
        ∙ (λ j. locals-opened ps ts h.inner j ++ (plains-moved z.after z.round z.passed actuals (length ps + staying (replicate (length ts) shared)) (length h.inner) plains ∙ ap (λ n. map (moved n) actuals) (opened-count ps ts h.inner)) j);
    above = h.above;
  }

  filled-closed : (g : Context) (A B : List Declared) → IsFilled g A B → IsFilled (in_closure g) A B
  filled-closed g A B h = record {
    inner = h.inner;
    before = h.before;
    after = h.after;
    locals = ap (map farther) h.locals ∙ map-append farther (same_locals h.inner 0) (map (moved (length h.inner)) actuals) ∙ (λ j. locals-farther h.inner 0 j ++ plains-far z.after z.round z.passed actuals (length h.inner) plains j);
    above = h.above;
  }

  -- the declarations inside
  inner-so : (g : Context) (inner : List Declared) → (h : IsFilled g (inner ++ Formals) (inner ++ z.round)) → g.locals ≡ same_locals inner 0 ++ map (moved (length inner)) actuals
  inner-so g inner h = h.locals ∙ sym (ap (λ l. same_locals l 0 ++ map (moved (length l)) actuals) (append_cancel_right inner h.inner Formals h.before))

  none-at : (k : ℕ) → 0 + k ≡ k
  none-at k = omega arith

  inner-there : (g : Context) (inner : List Declared) (n : Name) (b : Bool) → g.locals ≡ same_locals inner 0 ++ map (moved (length inner)) actuals → kind_in inner n ≡ Some b → slice_get g.locals (place_in inner n) ≡ Some (same_local_at b (place_in inner n))
  inner-there g inner n b e k =
      ap (λ l. slice_get l (place_in inner n)) e ∙ slice_get-front (same_locals inner 0) (map (moved (length inner)) actuals) (place_in inner n) (same_local_at b (place_in inner n)) (local-at inner n b 0 k ∙ ap (λ j. Some (same_local_at b j)) (none-at (place_in inner n)))

  read-inner : (g : Context) (k : ℕ) (b : Bool) → slice_get g.locals k ≡ Some (same_local_at b k) → Unfolds i gone g (reading (of_local k)) (reading (of_local k))
  read-inner g k true e = same_local k (a_temporary k) e tt
  read-inner g k false e = same_local k (an_argument k) e tt

  -- a part
  part-filled : (g : Context) (A B : List Declared) (t u : TreeOf Name) → IsFilled g A B → FilledPart z A B t u → Unfolds i gone g (tree_in z.before A t) (tree_in z.after B u)
  part-filled g A B _ _ h (filled_word n e) =
      subst (λ r. Unfolds i gone g (reading r) (reading (reference_in B (z.after n) n))) (sym (word-read A (z.before n) n e))
      (subst (λ r. Unfolds i gone g (reading (of_word n)) (reading r)) (sym (word-read B (z.after n) n e)) (same_reading (of_word n) tt))
  part-filled g _ _ _ _ h (filled_inner inner n b e k) =
      let first = kind-first inner Formals n b k in
      let second = kind-first inner z.round n b k in
      subst (λ r. Unfolds i gone g (reading r) (reading (reference_in (inner ++ z.round) (z.after n) n))) (sym (local-read (inner ++ Formals) (z.before n) n b e first.0 ∙ ap of_local first.1))
      (subst (λ r. Unfolds i gone g (reading (of_local (place_in inner n))) (reading r)) (sym (local-read (inner ++ z.round) (z.after n) n b e second.0 ∙ ap of_local second.1))
      (read-inner g (place_in inner n) b (inner-there g inner n b (inner-so g inner h) k)))
  part-filled g _ _ _ _ h (filled_formal inner n t e k p free) =
      let at = passed-at z.after z.round z.arguments z.passed actuals n t plains p in
      let behind = kind-behind inner Formals n k in
      let inside = plain-inside z.after z.round inner t at.stand_in at.plain free in
      subst (λ r. Unfolds i gone g (reading r) (tree_in z.after (inner ++ z.round) t)) (sym (local-read (inner ++ Formals) (z.before n) n false e (behind.0 ∙ at.kind) ∙ ap of_local behind.1))
      (subst (λ r. Unfolds i gone g (reading (of_local (length inner + place_in Formals n))) r) (sym inside.0)
      (same_local (length inner + place_in Formals n) (moved (length inner) at.stand_in)
      (ap (λ l. slice_get l (length inner + place_in Formals n)) (inner-so g inner h) ∙ get-behind (same_locals inner 0) (map (moved (length inner)) actuals) (length inner) (place_in Formals n) (locals-count inner 0)
      ∙ get-moved (length inner) actuals (place_in Formals n) at.stand_in at.there) inside.1))
  part-filled g _ _ _ _ h (filled_outer inner n e free) =
      subst (λ r. Unfolds i gone g (reading r) (reading (reference_in (inner ++ z.round) (z.after n) n))) (sym (outer-read (inner ++ Formals) (z.before n) n e ((kind-behind inner Formals n free.inside).0 ∙ free.formal)))
      (subst (λ r. Unfolds i gone g (reading (reference_of (z.before n) (place_in (inner ++ Formals) n) n)) (reading r))
      (sym (outer-read (inner ++ z.round) (z.after n) n e ((kind-behind inner z.round n free.inside).0 ∙ free.there) ∙ ap (λ m. reference_of m (place_in (inner ++ z.round) n) n) (sym free.same)))
      (read-outer i gone g (z.before n) (place_in (inner ++ Formals) n) (place_in (inner ++ z.round) n) n (outside n)))

  part-unblocked : (A B : List Declared) (t u : TreeOf Name) → FilledPart z A B t u → plain_code (tree_in z.before A t) ≡ None
  part-unblocked A B _ _ (filled_word n e) = refl
  part-unblocked _ _ _ _ (filled_inner inner n b e k) = refl
  part-unblocked _ _ _ _ (filled_formal inner n t e k p free) = refl
  part-unblocked _ _ _ _ (filled_outer inner n e free) = refl

  -- an assignment
  by-kind : (g : Context) (m m' : MeaningOf Name) (n : Name) (b : Bool) (k : ℕ) (x x' : ResolvedTree) → slice_get g.locals k ≡ Some (same_local_at b k) → Unfolds i gone g x x' → Unfolds i gone g (assigning (target_by (Some b) k m n) x) (assigning (target_by (Some b) k m' n) x')
  by-kind g m m' n true k x x' e r = same_temporary k k e r
  by-kind g m m' n false k x x' e r = same_assignment _ tt r

  target-filled : (g : Context) (A B : List Declared) (n : Name) (x x' : ResolvedTree) → IsFilled g A B → FilledTarget z A B n → Unfolds i gone g x x' → Unfolds i gone g (assigning (target_in A (z.before n) n) x) (assigning (target_in B (z.after n) n) x')
  target-filled g _ _ n x x' h (target_inner inner _ b e k) r =
      let first = kind-first inner Formals n b k in
      let second = kind-first inner z.round n b k in
      subst (λ y. Unfolds i gone g (assigning y x) (assigning (target_in (inner ++ z.round) (z.after n) n) x')) (sym (known-target (inner ++ Formals) (z.before n) n (Some b) e first.0 ∙ ap (λ p. target_by (Some b) p (z.before n) n) first.1))
      (subst (λ y. Unfolds i gone g (assigning (target_by (Some b) (place_in inner n) (z.before n) n) x) (assigning y x')) (sym (known-target (inner ++ z.round) (z.after n) n (Some b) e second.0 ∙ ap (λ p. target_by (Some b) p (z.after n) n) second.1))
      (by-kind g (z.before n) (z.after n) n b (place_in inner n) x x' (inner-there g inner n b (inner-so g inner h) k) r))
  target-filled g _ _ n x x' h (target_outer inner _ e free) r =
      subst (λ y. Unfolds i gone g (assigning y x) (assigning (target_in (inner ++ z.round) (z.after n) n) x')) (sym (known-target (inner ++ Formals) (z.before n) n None e ((kind-behind inner Formals n free.inside).0 ∙ free.formal)))
      (subst (λ y. Unfolds i gone g (assigning (target_of (z.before n) (place_in (inner ++ Formals) n) n) x) (assigning y x'))
      (sym (known-target (inner ++ z.round) (z.after n) n None e ((kind-behind inner z.round n free.inside).0 ∙ free.there) ∙ ap (λ m. target_of m (place_in (inner ++ z.round) n) n) (sym free.same)))
      (target-outer i gone g (z.before n) (place_in (inner ++ Formals) n) (place_in (inner ++ z.round) n) n (outside n) r))

  pub kept-filled : (control : ControlLaw) → IsKept control i gone (filling z supers gone.is_gone) z.before z.after IsFilled
  kept-filled control = record {
    scope = filled-scoped;
    closure = filled-closed;
    part = part-filled;
    blocked = λ g A B t u h p. open-pair i gone _ _ (part-unblocked A B t u p);
    sent = λ s e. e;
    assigned = target-filled;
    stored = λ g A B s n t x' h e m u. absurd e;
    returned = λ g A B h r. absurd r;
    above = λ g A B h e. h.above ∙ e;
  }

  -- at the beginning of the body
  pub filled-first : IsFilled (opened_context actuals supers) Formals z.round
  filled-first = record { inner = []; before = refl; after = refl; locals = sym (plains-still z.after z.round z.passed actuals plains); above = refl }
