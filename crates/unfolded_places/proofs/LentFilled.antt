-- A body with what is passed in place of its arguments is what it unfolds to, also where temporaries are passed that no closure assigns.
use Rattle.std.proofs.Common.{◌≡◌, ℕ, ◌+◌, List, [], ◌∷◌, ◌++◌, length, map, Option, Some, None, refl, sym, ap, ◌∙◌, subst, arith, append_assoc}
use Rattle.std.specs.Prelude.{Bool, true, false, ◌&&◌, ◌||◌, not, cond, find, if◌then◌else◌, option_map, replicate, slice_get, filter}
use Rattle.std.specs.List.{list_any}
use Rattle.std.proofs.Math.Numerals.{one-add}
use Rattle.std.proofs.lemmas.Bool.{false≢true}
use Rattle.std.proofs.lemmas.List.{map-append, append_cancel_right}
use Rattle.std.proofs.lemmas.Option.{slice_get-map}
use Rattle.rb_base.specs.Names.{text_eq}
use Rattle.rb_base.proofs.NamesLemmas.{text_eq-refl}
use Rattle.scope_model.specs.SpecialNames.{is_pseudo_variable}
use Rattle.scope_model.specs.Uses.{UseOf, enclosed}
use Rattle.tree_model.specs.Tree.{TreeOf, var, TreesOf}
use Rattle.image_model.specs.Means.{MeaningOf}
use Rattle.image_model.proofs.Ends.{slice_get-front}
use Rattle.run_model.specs.Values.{Name}
use Rattle.resolved_model.specs.ResolvedTrees.{of_word, of_local, ResolvedTree, reading, assigning}
use Rattle.resolved_model.specs.ResolvedImages.{ResolvedImage}
use Rattle.resolved_model.specs.ResolvedShapes.{plain_code}
use Rattle.resolved_model.specs.Resolving.{reference_of, target_of}
use Rattle.resolved_model.specs.Environments.{Declared, as_argument, opened, kind_in, place_in, target_by, reference_in, target_in, tree_in}
use Rattle.unfolded_calls.specs.Unfolding.{Allowed, shared, staying, StandIn, an_argument, a_temporary, a_steady, a_far, a_lent, a_dropped, a_nothing, a_self, a_nil, a_true, a_false, a_number, a_string, a_symbol, a_char, moved, farther, arguments_from, temporaries_from, Context, scoped, in_closure, opened as opened_context, Unfolds, same_local, same_reading, same_temporary, same_assignment}
use Rattle.unfolded_calls.specs.SameContexts.{same_local_at, same_locals, IsOutside}
use Rattle.unfolded_calls.proofs.Untouched.{locals-farther, locals-opened, local-at}
use Rattle.unfolded_places.specs.Inlining.{passed_for, PlainActual, IsFreeOf, Filling, FilledPart, filled_word, filled_inner, filled_formal, filled_outer, FilledTarget, target_inner, target_outer, filling}
use Rattle.unfolded_places.specs.Passed.{PassedActual, passed_plain, passed_temporary, PassedActuals, passed_none, passed_more}
use Rattle.unfolded_places.proofs.ShapePairs.{open-pair}
use Rattle.unfolded_places.proofs.Congruence.{ControlLaw}
use Rattle.unfolded_places.proofs.PlainThere.{plain-far, plain-still, plain-inside, read-outer, target-outer}
use Rattle.unfolded_places.proofs.NamesThere.{word-read, local-read, outer-read, known-target, kind-first, kind-behind, get-behind, locals-count, get-moved, opened-count, opened-append}
use Rattle.unfolded_places.proofs.UsesApart.{uses_of, is_read, is_read_far, is_use_outside, IsLess, read-inside, none-read-inside, read-far, outside-block, read-named, read-far-named}
use Rattle.unfolded_places.proofs.Moves.{IsHeld}

-- stand-ins inside several scopes, and inside a scope in a closure
moved-again : (n k : ℕ) (a : StandIn) → moved n (moved k a) ≡ moved (n + k) a
moved-again n k a = by a
  where
    sum : (j : ℕ) → n + (k + j) ≡ n + k + j
    sum j = omega arith

    by : (a : StandIn) → moved n (moved k a) ≡ moved (n + k) a
    by (an_argument j) = ap an_argument (sum j)
    by (a_temporary j) = ap a_temporary (sum j)
    by (a_steady j) = ap a_steady (sum j)
    by (a_far j) = ap a_far (sum j)
    by (a_lent j) = ap a_lent (sum j)
    by a_dropped = refl
    by a_nothing = refl
    by a_self = refl
    by a_nil = refl
    by a_true = refl
    by a_false = refl
    by (a_number t) = refl
    by (a_string t) = refl
    by (a_symbol t) = refl
    by (a_char b) = refl
    by (StandIn.a_class c) = refl

all-moved : (n k : ℕ) (xs : List StandIn) → map (moved n) (map (moved k) xs) ≡ map (moved (n + k)) xs
all-moved n k [] = refl
all-moved n k (a ∷ xs) = λ i. moved-again n k a i ∷ all-moved n k xs i

farther-moved : (n : ℕ) (a : StandIn) → farther (moved n a) ≡ moved n (farther a)
farther-moved n (an_argument j) = refl
farther-moved n (a_temporary j) = refl
farther-moved n (a_steady j) = refl
farther-moved n (a_far j) = refl
farther-moved n (a_lent j) = refl
farther-moved n a_dropped = refl
farther-moved n a_nothing = refl
farther-moved n a_self = refl
farther-moved n a_nil = refl
farther-moved n a_true = refl
farther-moved n a_false = refl
farther-moved n (a_number t) = refl
farther-moved n (a_string t) = refl
farther-moved n (a_symbol t) = refl
farther-moved n (a_char b) = refl
farther-moved n (StandIn.a_class c) = refl

all-farther : (n : ℕ) (xs : List StandIn) → map farther (map (moved n) xs) ≡ map (moved n) (map farther xs)
all-farther n [] = refl
all-farther n (a ∷ xs) = λ i. farther-moved n a i ∷ all-farther n xs i

-- what is passed stands where it is
still : (f : Name → MeaningOf Name) (A : List Declared) (keeps : Name → Bool) (t : TreeOf Name) (a : StandIn) → PassedActual f A keeps t a → moved 0 a ≡ a
still f A keeps t a (passed_plain p) = plain-still f A t a p
still f A keeps _ _ (passed_temporary n p e k) = ap a_lent (none (place_in A n))
  where
    none : (k : ℕ) → 0 + k ≡ k
    none k = omega arith

all-still : (f : Name → MeaningOf Name) (A : List Declared) (keeps : Name → Bool) (ts : TreesOf Name) (actuals : List StandIn) → PassedActuals f A keeps ts actuals → map (moved 0) actuals ≡ actuals
all-still f A keeps _ _ passed_none = refl
all-still f A keeps _ _ (passed_more {t = t} {ts = ts} {a = a} {rest = rest} p r) = λ i. still f A keeps t a p i ∷ all-still f A keeps ts rest r i

-- what is passed for a formal argument
pub record PassedAs (f : Name → MeaningOf Name) (A : List Declared) (keeps : Name → Bool) (ps : List Name) (actuals : List StandIn) (n : Name) (t : TreeOf Name) : Type 0 where
  pub stand_in : StandIn
  pub passed : PassedActual f A keeps t stand_in
  pub kind : kind_in (opened ps [] []) n ≡ Some false
  pub there : slice_get actuals (place_in (opened ps [] []) n) ≡ Some stand_in

pub passed-as : (f : Name → MeaningOf Name) (A : List Declared) (keeps : Name → Bool) (ps : List Name) (args : TreesOf Name) (actuals : List StandIn) (n : Name) (t : TreeOf Name) → PassedActuals f A keeps args actuals → passed_for ps args n ≡ Some t → PassedAs f A keeps ps actuals n t
passed-as f A keeps [] args actuals n t h e = absurd (cc)
passed-as f A keeps (p ∷ ps) _ _ n t passed_none e = absurd (cc)
passed-as f A keeps (p ∷ ps) _ _ n t (passed_more {t = u} {ts = ts} {a = a} {rest = rest} h r) e = by (text_eq n p) (passed-as f A keeps ps ts rest n t r) e refl
  where
    some : {x y : TreeOf Name} → Some x ≡ Some y → x ≡ y
    some z = cc

    kind-so : (c : Bool) → text_eq n p ≡ c → kind_in (opened (p ∷ ps) [] []) n ≡ option_map (λ (d : Declared). d.is_temporary) (cond c (Some (as_argument p)) (find (λ (d : Declared). text_eq n d.name) (opened ps [] [])))
    kind-so c q = ap (λ c. option_map (λ (d : Declared). d.is_temporary) (cond c (Some (as_argument p)) (find (λ (d : Declared). text_eq n d.name) (opened ps [] [])))) q

    place-so : (c : Bool) → text_eq n p ≡ c → place_in (opened (p ∷ ps) [] []) n ≡ cond (not c) (1 + place_in (opened ps [] []) n) 0
    place-so c q = ap (λ c. cond (not c) (1 + place_in (opened ps [] []) n) 0) q

    by : (c : Bool) → (passed_for ps ts n ≡ Some t → PassedAs f A keeps ps rest n t) → (if c then Some u else passed_for ps ts n) ≡ Some t → text_eq n p ≡ c → PassedAs f A keeps (p ∷ ps) (a ∷ rest) n t
    by true ih e q = record { stand_in = a; passed = subst (λ x. PassedActual f A keeps x a) (some e) h; kind = kind-so true q; there = ap (slice_get (a ∷ rest)) (place-so true q) }
    by false ih e q =
        let x = ih e in
        record { stand_in = x.stand_in; passed = x.passed; kind = kind-so false q ∙ x.kind; there = ap (slice_get (a ∷ rest)) (place-so false q ∙ one-add (place_in (opened ps [] []) n)) ∙ x.there }

-- a name that neither of two lists declares
none-both : (xs ys : List Declared) (n : Name) → kind_in (xs ++ ys) n ≡ None → (kind_in xs n ≡ None) × (kind_in ys n ≡ None)
none-both xs ys n e = by (kind_in xs n) refl
  where
    by : (o : Option Bool) → kind_in xs n ≡ o → (kind_in xs n ≡ None) × (kind_in ys n ≡ None)
    by (Some b) q = let first = (kind-first xs ys n b q).0 in absurd (cc)
    by None q = (q, sym (kind-behind xs ys n q).0 ∙ e)

module _ (i : ResolvedImage) (gone : Allowed) (z : Filling) (supers : Bool) (outside : (n : Name) → IsOutside (z.before n)) where
  abbrev Formals : List Declared
  Formals = opened z.arguments [] []

  -- what stands for an argument for which t is passed: what is plain; a temporary that no closure assigns, and no closure reads the argument; nothing, where it is not read
  pub data SeenAs (n : Name) (us : List (UseOf Name)) : TreeOf Name → Option StandIn → Type 0 where
    seen_plain : {t : TreeOf Name} {a : StandIn} → PlainActual z.after z.round t a → SeenAs n us t (Some a)
    seen_lent : (x : Name) → is_pseudo_variable x ≡ false → kind_in z.round x ≡ Some true → list_any (is_read_far n) us ≡ false → SeenAs n us (var x) (Some (a_lent (place_in z.round x)))
    seen_gone : {t : TreeOf Name} → list_any (is_read n) us ≡ false → SeenAs n us t (Some a_nothing)

  seen-less : (n : Name) (us vs : List (UseOf Name)) (t : TreeOf Name) (o : Option StandIn) → (list_any (is_read_far n) us ≡ false → list_any (is_read_far n) vs ≡ false) → (list_any (is_read n) us ≡ false → list_any (is_read n) vs ≡ false) → SeenAs n us t o → SeenAs n vs t o
  seen-less n us vs _ _ p q (seen_plain h) = seen_plain h
  seen-less n us vs _ _ p q (seen_lent x e k r) = seen_lent x e k (p r)
  seen-less n us vs _ _ p q (seen_gone r) = seen_gone (q r)

  seen-closed : (n : Name) (us : List (UseOf Name)) (t : TreeOf Name) (o : Option StandIn) → SeenAs n (map enclosed us) t o → SeenAs n us t (option_map farther o)
  seen-closed n us t _ (seen_plain {a = a} h) =
      let here = sym (ap farther (plain-still z.after z.round t a h)) ∙ plain-far z.after z.round t a 0 h ∙ plain-still z.after z.round t a h in
      subst (λ x. SeenAs n us t (Some x)) (sym here) (seen_plain h)
  seen-closed n us _ _ (seen_lent x e k r) = seen_gone (read-inside n us r)
  seen-closed n us _ _ (seen_gone r) = seen_gone (none-read-inside n us r)

  -- inside blocks of the body
  pub record IsLent (g : Context) (A B : List Declared) (us : List (UseOf Name)) : Type 0 where
    pub inner : List Declared
    pub before : A ≡ inner ++ Formals
    pub after : B ≡ inner ++ z.round
    pub seen : List StandIn
    pub locals : g.locals ≡ same_locals inner 0 ++ map (moved (length inner)) seen
    pub above : g.supers ≡ supers
    pub formals : (n : Name) (t : TreeOf Name) → is_pseudo_variable n ≡ false → kind_in inner n ≡ None → passed_for z.arguments z.passed n ≡ Some t → (kind_in Formals n ≡ Some false) × SeenAs n us t (slice_get seen (place_in Formals n))

  lent-less : (g : Context) (A B : List Declared) (us vs : List (UseOf Name)) → IsLess us vs → IsLent g A B us → IsLent g A B vs
  lent-less g A B us vs l h = record {
    inner = h.inner;
    before = h.before;
    after = h.after;
    seen = h.seen;
    locals = h.locals;
    above = h.above;
    formals = λ n t p k e. let x = h.formals n t p k e in (x.0, seen-less n us vs t (slice_get h.seen (place_in Formals n)) (l (is_read_far n)) (l (is_read n)) x.1);
  }

  lent-scoped : (g : Context) (A B : List Declared) (ps ts : List Name) (us : List (UseOf Name)) → IsLent g A B (filter (is_use_outside ps ts) us) → IsLent (scoped (length ps) (replicate (length ts) shared) g) (opened ps ts A) (opened ps ts B) us
  lent-scoped g A B ps ts us h = record {
    inner = opened ps ts h.inner;
    before = ap (opened ps ts) h.before ∙ opened-append ps ts h.inner Formals;
    after = ap (opened ps ts) h.after ∙ opened-append ps ts h.inner z.round;
    seen = h.seen;
    locals =
        ap (λ l. (arguments_from (length ps) 0 ++ temporaries_from (replicate (length ts) shared) (length ps)) ++ map (moved (length ps + staying (replicate (length ts) shared))) l) h.locals
        ∙ ap (λ l. (arguments_from (length ps) 0 ++ temporaries_from (replicate (length ts) shared) (length ps)) ++ l) (map-append (moved (length ps + staying (replicate (length ts) shared))) (same_locals h.inner 0) (map (moved (length h.inner)) h.seen))
        ∙ sym (append_assoc (arguments_from (length ps) 0 ++ temporaries_from (replicate (length ts) shared) (length ps)) (map (moved (length ps + staying (replicate (length ts) shared))) (same_locals h.inner 0)) (map (moved (length ps + staying (replicate (length ts) shared))) (map (moved (length h.inner)) h.seen)))
        ∙ (λ j. locals-opened ps ts h.inner j ++ (all-moved (length ps + staying (replicate (length ts) shared)) (length h.inner) h.seen ∙ ap (λ n. map (moved n) h.seen) (opened-count ps ts h.inner)) j);
    above = h.above;
    formals = λ n t p k e.
        let both = none-both (opened ps ts []) h.inner n (ap (λ C. kind_in C n) (sym (opened-append ps ts [] h.inner)) ∙ k) in
        let x = h.formals n t p both.1 e in
        (x.0, seen-less n (filter (is_use_outside ps ts) us) us t (slice_get h.seen (place_in Formals n)) (outside-block ps ts n (is_read_far n) us both.0 (read-far-named n)) (outside-block ps ts n (is_read n) us both.0 (read-named n)) x.1);
  }

  lent-closed : (g : Context) (A B : List Declared) (us : List (UseOf Name)) → IsLent g A B (map enclosed us) → IsLent (in_closure g) A B us
  lent-closed g A B us h = record {
    inner = h.inner;
    before = h.before;
    after = h.after;
    seen = map farther h.seen;
    locals = ap (map farther) h.locals ∙ map-append farther (same_locals h.inner 0) (map (moved (length h.inner)) h.seen) ∙ (λ j. locals-farther h.inner 0 j ++ all-farther (length h.inner) h.seen j);
    above = h.above;
    formals = λ n t p k e.
        let x = h.formals n t p k e in
        (x.0, subst (SeenAs n us t) (sym (slice_get-map farther h.seen (place_in Formals n))) (seen-closed n us t (slice_get h.seen (place_in Formals n)) x.1));
  }

  lent-nearer : (g : Context) (A B : List Declared) (us : List (UseOf Name)) → IsLent g A B (map enclosed us) → IsLent g A B us
  lent-nearer g A B us h = record {
    inner = h.inner;
    before = h.before;
    after = h.after;
    seen = h.seen;
    locals = h.locals;
    above = h.above;
    formals = λ n t p k e.
        let x = h.formals n t p k e in
        (x.0, seen-less n (map enclosed us) us t (slice_get h.seen (place_in Formals n)) (λ r. read-far n us (read-inside n us r)) (none-read-inside n us) x.1);
  }

  -- the declarations inside
  inner-is : {g : Context} {us : List (UseOf Name)} (inner : List Declared) → (h : IsLent g (inner ++ Formals) (inner ++ z.round) us) → h.inner ≡ inner
  inner-is inner h = sym (append_cancel_right inner h.inner Formals h.before)

  locals-there : {g : Context} {us : List (UseOf Name)} (inner : List Declared) → (h : IsLent g (inner ++ Formals) (inner ++ z.round) us) → g.locals ≡ same_locals inner 0 ++ map (moved (length inner)) h.seen
  locals-there inner h = h.locals ∙ ap (λ l. same_locals l 0 ++ map (moved (length l)) h.seen) (inner-is inner h)

  none-at : (k : ℕ) → 0 + k ≡ k
  none-at k = omega arith

  inner-there : (g : Context) (us : List (UseOf Name)) (inner : List Declared) (n : Name) (b : Bool) → IsLent g (inner ++ Formals) (inner ++ z.round) us → kind_in inner n ≡ Some b → slice_get g.locals (place_in inner n) ≡ Some (same_local_at b (place_in inner n))
  inner-there g us inner n b h k =
      ap (λ l. slice_get l (place_in inner n)) (locals-there inner h) ∙ slice_get-front (same_locals inner 0) (map (moved (length inner)) h.seen) (place_in inner n) (same_local_at b (place_in inner n)) (local-at inner n b 0 k ∙ ap (λ j. Some (same_local_at b j)) (none-at (place_in inner n)))

  read-inner : (g : Context) (k : ℕ) (b : Bool) → slice_get g.locals k ≡ Some (same_local_at b k) → Unfolds i gone g (reading (of_local k)) (reading (of_local k))
  read-inner g k true e = same_local k (a_temporary k) e tt
  read-inner g k false e = same_local k (an_argument k) e tt

  -- an argument
  formal-there : (g : Context) (inner : List Declared) (seen : List StandIn) (n : Name) (t : TreeOf Name) (us : List (UseOf Name)) → list_any (is_read n) us ≡ true → g.locals ≡ same_locals inner 0 ++ map (moved (length inner)) seen → IsFreeOf inner t → (o : Option StandIn) → slice_get seen (place_in Formals n) ≡ o → SeenAs n us t o →
      Unfolds i gone g (reading (of_local (length inner + place_in Formals n))) (tree_in z.after (inner ++ z.round) t)
  formal-there g inner seen n t us r locals free _ e (seen_plain {a = a} p) =
      let inside = plain-inside z.after z.round inner t a p free in
      subst (λ y. Unfolds i gone g (reading (of_local (length inner + place_in Formals n))) y) (sym inside.0)
      (same_local (length inner + place_in Formals n) (moved (length inner) a)
      (ap (λ l. slice_get l (length inner + place_in Formals n)) locals ∙ get-behind (same_locals inner 0) (map (moved (length inner)) seen) (length inner) (place_in Formals n) (locals-count inner 0) ∙ get-moved (length inner) seen (place_in Formals n) a e) inside.1)
  formal-there g inner seen n _ us r locals free _ e (seen_lent x p k q) =
      let behind = kind-behind inner z.round x (free p) in
      subst (λ y. Unfolds i gone g (reading (of_local (length inner + place_in Formals n))) (reading y)) (sym (local-read (inner ++ z.round) (z.after x) x true p (behind.0 ∙ k) ∙ ap of_local behind.1))
      (same_local (length inner + place_in Formals n) (a_lent (length inner + place_in z.round x))
      (ap (λ l. slice_get l (length inner + place_in Formals n)) locals ∙ get-behind (same_locals inner 0) (map (moved (length inner)) seen) (length inner) (place_in Formals n) (locals-count inner 0) ∙ get-moved (length inner) seen (place_in Formals n) (a_lent (place_in z.round x)) e) tt)
  formal-there g inner seen n t us r locals free _ e (seen_gone q) = absurd (false≢true (sym q ∙ r))

  -- a part
  part-lent : (g : Context) (A B : List Declared) (t u : TreeOf Name) (in_place : Bool) → IsLent g A B (uses_of in_place t) → FilledPart z A B t u → Unfolds i gone g (tree_in z.before A t) (tree_in z.after B u)
  part-lent g A B _ _ in_place h (filled_word n e) =
      subst (λ r. Unfolds i gone g (reading r) (reading (reference_in B (z.after n) n))) (sym (word-read A (z.before n) n e))
      (subst (λ r. Unfolds i gone g (reading (of_word n)) (reading r)) (sym (word-read B (z.after n) n e)) (same_reading (of_word n) tt))
  part-lent g _ _ _ _ in_place h (filled_inner inner n b e k) =
      let first = kind-first inner Formals n b k in
      let second = kind-first inner z.round n b k in
      subst (λ r. Unfolds i gone g (reading r) (reading (reference_in (inner ++ z.round) (z.after n) n))) (sym (local-read (inner ++ Formals) (z.before n) n b e first.0 ∙ ap of_local first.1))
      (subst (λ r. Unfolds i gone g (reading (of_local (place_in inner n))) (reading r)) (sym (local-read (inner ++ z.round) (z.after n) n b e second.0 ∙ ap of_local second.1))
      (read-inner g (place_in inner n) b (inner-there g _ inner n b h k)))
  part-lent g _ _ _ _ in_place h (filled_formal inner n t e k p free) =
      let behind = kind-behind inner Formals n k in
      let at = h.formals n t e (ap (λ l. kind_in l n) (inner-is inner h) ∙ k) p in
      subst (λ r. Unfolds i gone g (reading r) (tree_in z.after (inner ++ z.round) t)) (sym (local-read (inner ++ Formals) (z.before n) n false e (behind.0 ∙ at.0) ∙ ap of_local behind.1))
      (formal-there g inner h.seen n t (uses_of in_place (var n)) (ap (λ b. (b && true) || false) (text_eq-refl n)) (locals-there inner h) free (slice_get h.seen (place_in Formals n)) refl at.1)
  part-lent g _ _ _ _ in_place h (filled_outer inner n e free) =
      subst (λ r. Unfolds i gone g (reading r) (reading (reference_in (inner ++ z.round) (z.after n) n))) (sym (outer-read (inner ++ Formals) (z.before n) n e ((kind-behind inner Formals n free.inside).0 ∙ free.formal)))
      (subst (λ r. Unfolds i gone g (reading (reference_of (z.before n) (place_in (inner ++ Formals) n) n)) (reading r))
      (sym (outer-read (inner ++ z.round) (z.after n) n e ((kind-behind inner z.round n free.inside).0 ∙ free.there) ∙ ap (λ m. reference_of m (place_in (inner ++ z.round) n) n) (sym free.same)))
      (read-outer i gone g (z.before n) (place_in (inner ++ Formals) n) (place_in (inner ++ z.round) n) n (outside n)))

  part-loose : (A B : List Declared) (t u : TreeOf Name) → FilledPart z A B t u → plain_code (tree_in z.before A t) ≡ None
  part-loose A B _ _ (filled_word n e) = refl
  part-loose _ _ _ _ (filled_inner inner n b e k) = refl
  part-loose _ _ _ _ (filled_formal inner n t e k p free) = refl
  part-loose _ _ _ _ (filled_outer inner n e free) = refl

  -- an assignment
  by-kind : (g : Context) (m m' : MeaningOf Name) (n : Name) (b : Bool) (k : ℕ) (x x' : ResolvedTree) → slice_get g.locals k ≡ Some (same_local_at b k) → Unfolds i gone g x x' → Unfolds i gone g (assigning (target_by (Some b) k m n) x) (assigning (target_by (Some b) k m' n) x')
  by-kind g m m' n true k x x' e r = same_temporary k k e r
  by-kind g m m' n false k x x' e r = same_assignment _ tt r

  target-lent : (g : Context) (A B : List Declared) (n : Name) (us : List (UseOf Name)) (x x' : ResolvedTree) → IsLent g A B us → FilledTarget z A B n → Unfolds i gone g x x' → Unfolds i gone g (assigning (target_in A (z.before n) n) x) (assigning (target_in B (z.after n) n) x')
  target-lent g _ _ n us x x' h (target_inner inner _ b e k) r =
      let first = kind-first inner Formals n b k in
      let second = kind-first inner z.round n b k in
      subst (λ y. Unfolds i gone g (assigning y x) (assigning (target_in (inner ++ z.round) (z.after n) n) x')) (sym (known-target (inner ++ Formals) (z.before n) n (Some b) e first.0 ∙ ap (λ p. target_by (Some b) p (z.before n) n) first.1))
      (subst (λ y. Unfolds i gone g (assigning (target_by (Some b) (place_in inner n) (z.before n) n) x) (assigning y x')) (sym (known-target (inner ++ z.round) (z.after n) n (Some b) e second.0 ∙ ap (λ p. target_by (Some b) p (z.after n) n) second.1))
      (by-kind g (z.before n) (z.after n) n b (place_in inner n) x x' (inner-there g us inner n b h k) r))
  target-lent g _ _ n us x x' h (target_outer inner _ e free) r =
      subst (λ y. Unfolds i gone g (assigning y x) (assigning (target_in (inner ++ z.round) (z.after n) n) x')) (sym (known-target (inner ++ Formals) (z.before n) n None e ((kind-behind inner Formals n free.inside).0 ∙ free.formal)))
      (subst (λ y. Unfolds i gone g (assigning (target_of (z.before n) (place_in (inner ++ Formals) n) n) x) (assigning y x'))
      (sym (known-target (inner ++ z.round) (z.after n) n None e ((kind-behind inner z.round n free.inside).0 ∙ free.there) ∙ ap (λ m. target_of m (place_in (inner ++ z.round) n) n) (sym free.same)))
      (target-outer i gone g (z.before n) (place_in (inner ++ Formals) n) (place_in (inner ++ z.round) n) n (outside n) r))

  pub lent-held : (control : ControlLaw) → IsHeld control i gone (filling z supers gone.is_gone) z.before z.after IsLent
  lent-held control = record {
    less = lent-less;
    scope = lent-scoped;
    closure = lent-closed;
    nearer = lent-nearer;
    part = λ g A B t u in_place h p. record { whole = λ e. part-lent g A B t u in_place h p; code = open-pair i gone _ _ (part-loose A B t u p) };
    sent = λ s e. e;
    assigned = λ g A B n us x x' h e r. target-lent g A B n _ x x' h e r;
    stored = λ A B s n e. e;
    returned = λ g A B us h r. absurd r;
    above = λ g A B us h e. h.above ∙ e;
  }

  -- at the beginning of the body
  pub lent-first : (keeps : Name → Bool) (actuals : List StandIn) (us : List (UseOf Name)) → PassedActuals z.after z.round keeps z.passed actuals →
      ((n x : Name) → is_pseudo_variable n ≡ false → passed_for z.arguments z.passed n ≡ Some (var x) → is_pseudo_variable x ≡ false → kind_in z.round x ≡ Some true → list_any (is_read_far n) us ≡ false) → IsLent (opened_context actuals supers) Formals z.round us
  lent-first keeps actuals us passed near = record {
    inner = [];
    before = refl;
    after = refl;
    seen = actuals;
    locals = sym (all-still z.after z.round keeps z.passed actuals passed);
    above = refl;
    formals = λ n t p k e.
        let at = passed-as z.after z.round keeps z.arguments z.passed actuals n t passed e in
        (at.kind, subst (SeenAs n us t) (sym at.there) (seen n t at.stand_in p e at.passed));
  }
    where
      seen : (n : Name) (t : TreeOf Name) (a : StandIn) → is_pseudo_variable n ≡ false → passed_for z.arguments z.passed n ≡ Some t → PassedActual z.after z.round keeps t a → SeenAs n us t (Some a)
      seen n t a o e (passed_plain p) = seen_plain p
      seen n _ _ o e (passed_temporary x p k q) = seen_lent x p k (near n x o e p k)
