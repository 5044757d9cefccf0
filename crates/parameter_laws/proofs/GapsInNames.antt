-- What names are read as once the name in a gap is not declared.
use Rattle.std.proofs.Common.{◌≡◌, ℕ, zero, suc, ◌+◌, ◌-◌, ◌<◌, List, [], ◌∷◌, ◌++◌, length, Option, Some, None, refl, sym, ap, ◌∙◌, subst, arith, length-append}
use Rattle.std.specs.Prelude.{Bool, true, false, not, cond, if◌then◌else◌, nat_lt, nat_eq, map, find, option_map, remove}
use Rattle.std.proofs.lemmas.Bool.{ltb-true, ltb-false, lt-ltb, le-ltb, eqb-true, eqb-false, eq-eqb, ne_eqb, false≢true}
use Rattle.rb_base.specs.Names.{text_eq}
use Rattle.scope_model.specs.SpecialNames.{is_pseudo_variable}
use Rattle.image_model.specs.Means.{MeaningOf, pseudo, argument, temporary, variable, a_class, transcript, undeclared, of_instance, of_class_side, of_class}
use Rattle.run_model.specs.Values.{Name}
use Rattle.run_model.proofs.Finite.{by_cases}
use Rattle.resolved_model.specs.ResolvedTrees.{of_word, of_local, to_temporary, to_fixed}
use Rattle.resolved_model.specs.Resolving.{reference_of, target_of}
use Rattle.argument_laws.specs.ArgumentGone.{inwards, closed_up, reference_without, target_without}
use Rattle.argument_laws.specs.PlainArguments.{is_gap, LeavesReference, LeavesTarget}
use Rattle.resolved_model.specs.Environments.{Declared, as_argument, as_temporary, opened, kind_in, place_in, reference_by, target_by, reference_in, target_in}
use Rattle.rename_laws.proofs.TextsTold.{text-turned}

-- Declarations of which the second are the first without the one in the gap: a name whose place is not the gap is declared as before, and its place is closed up; and the gap is declared, as an argument.
pub record Closes (gap : Option ℕ) (env env' : List Declared) : Type 0 where
  pub kind : (n : Name) → is_gap gap (place_in env n) ≡ false → kind_in env' n ≡ kind_in env n
  pub place : (n : Name) → is_gap gap (place_in env n) ≡ false → place_in env' n ≡ closed_up gap (place_in env n)
  pub declared : (n : Name) → kind_in env n ≡ None → is_gap gap (place_in env n) ≡ false
  pub argument_there : (n : Name) → is_gap gap (place_in env n) ≡ true → kind_in env n ≡ Some false

-- without a gap
pub closes-none : (env : List Declared) → Closes None env env
closes-none env = record { kind = λ n h. refl; place = λ n h. refl; declared = λ n h. refl; argument_there = λ n h. absurd (false≢true h) }

-- places behind a gap one further on
gap-on : (gap : Option ℕ) (p : ℕ) → is_gap (inwards 1 gap) (1 + p) ≡ false → is_gap gap p ≡ false
gap-on None p h = refl
gap-on (Some g) p h = ne_eqb g p (λ e. eqb-false (1 + g) (1 + p) h (ap (λ n. 1 + n) e))

gap-back : (gap : Option ℕ) (p : ℕ) → is_gap gap p ≡ false → is_gap (inwards 1 gap) (1 + p) ≡ false
gap-back None p h = refl
gap-back (Some g) p h = ne_eqb (1 + g) (1 + p) (λ e. eqb-false g p h (omega (arith, e)))

pub gap-there : (gap : Option ℕ) (p : ℕ) → is_gap (inwards 1 gap) (1 + p) ≡ true → is_gap gap p ≡ true
gap-there None p h = h
gap-there (Some g) p h = let e = eqb-true (1 + g) (1 + p) h in eq-eqb g p (omega (arith, e))

-- the first place is not behind
pub gap-first : (gap : Option ℕ) → is_gap (inwards 1 gap) 0 ≡ false
gap-first None = refl
gap-first (Some g) = ne_eqb (1 + g) 0 (λ e. omega (arith, e))

closed-by : (g p : ℕ) (b c : Bool) → nat_lt g p ≡ b → nat_lt (1 + g) (1 + p) ≡ c → 1 + (if b then p - 1 else p) ≡ (if c then 1 + p - 1 else 1 + p)
closed-by g p true true e f = let h = ltb-true g p e in omega arith
closed-by g p true false e f = let h = ltb-true g p e in let k = ltb-false (1 + g) (1 + p) f in absurd (omega arith)
closed-by g p false true e f = let h = ltb-false g p e in let k = ltb-true (1 + g) (1 + p) f in absurd (omega arith)
closed-by g p false false e f = refl

closed-on : (gap : Option ℕ) (p : ℕ) → 1 + closed_up gap p ≡ closed_up (inwards 1 gap) (1 + p)
closed-on None p = refl
closed-on (Some g) p = closed-by g p (nat_lt g p) (nat_lt (1 + g) (1 + p)) refl refl

closed-first : (gap : Option ℕ) → 0 ≡ closed_up (inwards 1 gap) 0
closed-first None = refl
closed-first (Some g) = ap (λ b. if b then 0 - 1 else 0) (sym (le-ltb (1 + g) 0 (omega arith)))

-- the place and the kind of a name behind a declaration
place-by : Bool → ℕ → ℕ
place-by b p = cond (not b) (1 + p) 0

-- one declaration in front
one-front : (gap : Option ℕ) (d : Declared) (env env' : List Declared) → Closes gap env env' → Closes (inwards 1 gap) (d ∷ env) (d ∷ env')
one-front gap d env env' c = record {
  kind = λ n h. kind-by n (text_eq n d.name) h;
  place = λ n h. place-at n (text_eq n d.name) h;
  declared = λ n h. declared-by n (text_eq n d.name) h;
  argument_there = λ n h. argument-by n (text_eq n d.name) h;
}
  where
    kind-by : (n : Name) (b : Bool) → is_gap (inwards 1 gap) (cond (not b) (1 + place_in env n) 0) ≡ false →
        option_map (λ (x : Declared). x.is_temporary) (cond b (Some d) (find (λ (x : Declared). text_eq n x.name) env')) ≡ option_map (λ (x : Declared). x.is_temporary) (cond b (Some d) (find (λ (x : Declared). text_eq n x.name) env))
    kind-by n true h = refl
    kind-by n false h = c.kind n (gap-on gap (place_in env n) h)

    place-at : (n : Name) (b : Bool) → is_gap (inwards 1 gap) (cond (not b) (1 + place_in env n) 0) ≡ false →
        cond (not b) (1 + place_in env' n) 0 ≡ closed_up (inwards 1 gap) (cond (not b) (1 + place_in env n) 0)
    place-at n true h = closed-first gap
    place-at n false h = ap (λ p. 1 + p) (c.place n (gap-on gap (place_in env n) h)) ∙ closed-on gap (place_in env n)

    declared-by : (n : Name) (b : Bool) → option_map (λ (x : Declared). x.is_temporary) (cond b (Some d) (find (λ (x : Declared). text_eq n x.name) env)) ≡ None →
        is_gap (inwards 1 gap) (cond (not b) (1 + place_in env n) 0) ≡ false
    declared-by n true h = gap-first gap
    declared-by n false h = gap-back gap (place_in env n) (c.declared n h)

    argument-by : (n : Name) (b : Bool) → is_gap (inwards 1 gap) (cond (not b) (1 + place_in env n) 0) ≡ true → option_map (λ (x : Declared). x.is_temporary) (cond b (Some d) (find (λ (x : Declared). text_eq n x.name) env)) ≡ Some false
    argument-by n true h = absurd (false≢true (sym (gap-first gap) ∙ h))
    argument-by n false h = c.argument_there n (gap-there gap (place_in env n) h)

-- further in, one by one
pub inwards-suc : (n : ℕ) (gap : Option ℕ) → inwards 1 (inwards n gap) ≡ inwards (suc n) gap
inwards-suc n None = refl
inwards-suc n (Some g) = let e : 1 + (n + g) ≡ suc n + g = omega arith in ap Some e

pub inwards-none : (gap : Option ℕ) → inwards 0 gap ≡ gap
inwards-none None = refl
inwards-none (Some g) = let e : 0 + g ≡ g = omega arith in ap Some e

pub inwards-both : (m n : ℕ) (gap : Option ℕ) → inwards m (inwards n gap) ≡ inwards (m + n) gap
inwards-both m n None = refl
inwards-both m n (Some g) = let e : m + (n + g) ≡ m + n + g = omega arith in ap Some e

-- declarations of one kind in front
names-front : (make : Name → Declared) (ns : List Name) (gap : Option ℕ) (env env' : List Declared) → Closes gap env env' → Closes (inwards (length ns) gap) (map make ns ++ env) (map make ns ++ env')
names-front make [] gap env env' c = subst (λ x. Closes x env env') (sym (inwards-none gap)) c
names-front make (n ∷ ns) gap env env' c =
    subst (λ x. Closes x (make n ∷ (map make ns ++ env)) (make n ∷ (map make ns ++ env'))) (inwards-suc (length ns) gap)
    (one-front (inwards (length ns) gap) (make n) (map make ns ++ env) (map make ns ++ env') (names-front make ns gap env env' c))

-- inside a block
pub closes-inside : (ps ts : List Name) (gap : Option ℕ) (env env' : List Declared) → Closes gap env env' → Closes (inwards (length ps + length ts) gap) (opened ps ts env) (opened ps ts env')
closes-inside ps ts gap env env' c =
    subst (λ x. Closes x (opened ps ts env) (opened ps ts env')) (inwards-both (length ps) (length ts) gap)
    (names-front as_argument ps (inwards (length ts) gap) (map as_temporary ts ++ env) (map as_temporary ts ++ env') (names-front as_temporary ts gap env env' c))

-- the declaration that is gone is the first
first-gone : (d : Declared) (env : List Declared) → d.is_temporary ≡ false → Closes (Some 0) (d ∷ env) env
first-gone d env own = record {
  kind = λ n h. kind-by n (text_eq n d.name) h;
  place = λ n h. place-at n (text_eq n d.name) h;
  declared = λ n h. declared-by n (text_eq n d.name) h;
  argument_there = λ n h. argument-by n (text_eq n d.name) h;
}
  where
    kind-by : (n : Name) (b : Bool) → nat_eq 0 (cond (not b) (1 + place_in env n) 0) ≡ false →
        kind_in env n ≡ option_map (λ (x : Declared). x.is_temporary) (cond b (Some d) (find (λ (x : Declared). text_eq n x.name) env))
    kind-by n true h = absurd (eqb-false 0 0 h refl)
    kind-by n false h = refl

    place-at : (n : Name) (b : Bool) → nat_eq 0 (cond (not b) (1 + place_in env n) 0) ≡ false → place_in env n ≡ closed_up (Some 0) (cond (not b) (1 + place_in env n) 0)
    place-at n true h = absurd (eqb-false 0 0 h refl)
    place-at n false h =
        let e : place_in env n ≡ 1 + place_in env n - 1 = omega arith in
        e ∙ ap (λ b. if b then 1 + place_in env n - 1 else 1 + place_in env n) (sym (lt-ltb 0 (1 + place_in env n) (omega arith)))

    declared-by : (n : Name) (b : Bool) → option_map (λ (x : Declared). x.is_temporary) (cond b (Some d) (find (λ (x : Declared). text_eq n x.name) env)) ≡ None → nat_eq 0 (cond (not b) (1 + place_in env n) 0) ≡ false
    declared-by n true h = absurd (some-none h)
      where
        some-none : Some d.is_temporary ≡ None → ⊥
        some-none q = cc
    declared-by n false h = ne_eqb 0 (1 + place_in env n) (λ e. omega (arith, e))

    argument-by : (n : Name) (b : Bool) → nat_eq 0 (cond (not b) (1 + place_in env n) 0) ≡ true → option_map (λ (x : Declared). x.is_temporary) (cond b (Some d) (find (λ (x : Declared). text_eq n x.name) env)) ≡ Some false
    argument-by n true h = ap Some own
    argument-by n false h = let e = eqb-true 0 (1 + place_in env n) h in absurd (omega (arith, e))

-- an argument of a method is gone
pub argument-gone : (k : ℕ) (ps ts : List Name) → k < length ps → Closes (Some k) (opened ps ts []) (opened (remove ps k) ts [])
argument-gone k [] ts h = absurd (omega arith)
argument-gone zero (p ∷ ps) ts h = first-gone (as_argument p) (opened ps ts []) refl
argument-gone (suc k) (p ∷ ps) ts h =
    let e : 1 + k ≡ suc k = omega arith in
    subst (λ g. Closes (Some g) (opened (p ∷ ps) ts []) (as_argument p ∷ opened (remove ps k) ts [])) e
    (one-front (Some k) (as_argument p) (opened ps ts []) (opened (remove ps k) ts []) (argument-gone k ps ts (omega arith)))

-- what is meant outside is read by its name
outside-read : (gap : Option ℕ) (g : MeaningOf Name) (k k' : ℕ) (n : Name) → k' ≡ closed_up gap k → reference_of g k' n ≡ reference_without gap (reference_of g k n)
outside-read gap pseudo k k' n e = refl
outside-read gap (argument scope) k k' n e = ap of_local e
outside-read gap (temporary scope) k k' n e = ap of_local e
outside-read gap (variable of_instance c) k k' n e = refl
outside-read gap (variable of_class_side c) k k' n e = refl
outside-read gap (variable of_class c) k k' n e = refl
outside-read gap (a_class c) k k' n e = refl
outside-read gap transcript k k' n e = refl
outside-read gap undeclared k k' n e = refl

-- and assigned
outside-assigned : (gap : Option ℕ) (g : MeaningOf Name) (k k' : ℕ) (n : Name) → k' ≡ closed_up gap k → target_of g k' n ≡ target_without gap (target_of g k n)
outside-assigned gap pseudo k k' n e = refl
outside-assigned gap (argument scope) k k' n e = refl
outside-assigned gap (temporary scope) k k' n e = ap to_temporary e
outside-assigned gap (variable of_instance c) k k' n e = refl
outside-assigned gap (variable of_class_side c) k k' n e = refl
outside-assigned gap (variable of_class c) k k' n e = refl
outside-assigned gap (a_class c) k k' n e = refl
outside-assigned gap transcript k k' n e = refl
outside-assigned gap undeclared k k' n e = refl

module _ (gap : Option ℕ) (env env' : List Declared) (closes : Closes gap env env') (g : MeaningOf Name) (n : Name) where
  -- what is read, by how the name is declared
  read-by : (o : Option Bool) → kind_in env n ≡ o → LeavesReference gap (reference_by o (place_in env n) g n) → reference_by (kind_in env' n) (place_in env' n) g n ≡ reference_without gap (reference_by o (place_in env n) g n)
  read-by (Some b) e h = (λ i. reference_by ((closes.kind n h ∙ e) i) (closes.place n h i) g n)
  read-by None e h =
      let apart = closes.declared n e in
      ap (λ o. reference_by o (place_in env' n) g n) (closes.kind n apart ∙ e) ∙ outside-read gap g (place_in env n) (place_in env' n) n (closes.place n apart)

  pub read-closed : LeavesReference gap (reference_in env g n) → reference_in env' g n ≡ reference_without gap (reference_in env g n)
  read-closed h = by (is_pseudo_variable n) h
    where
      by : (b : Bool) → LeavesReference gap (if b then of_word n else reference_by (kind_in env n) (place_in env n) g n) →
          (if b then of_word n else reference_by (kind_in env' n) (place_in env' n) g n) ≡ reference_without gap (if b then of_word n else reference_by (kind_in env n) (place_in env n) g n)
      by true q = refl
      by false q = read-by (kind_in env n) refl q

  -- what is assigned, if it is not in the gap
  assigned-by : (o : Option Bool) → kind_in env n ≡ o → is_gap gap (place_in env n) ≡ false → target_by (kind_in env' n) (place_in env' n) g n ≡ target_without gap (target_by o (place_in env n) g n)
  assigned-by (Some true) e h = (λ i. target_by ((closes.kind n h ∙ e) i) (closes.place n h i) g n)
  assigned-by (Some false) e h = (λ i. target_by ((closes.kind n h ∙ e) i) (closes.place n h i) g n)
  assigned-by None e h = ap (λ o. target_by o (place_in env' n) g n) (closes.kind n h ∙ e) ∙ outside-assigned gap g (place_in env n) (place_in env' n) n (closes.place n h)

  -- what is not declared as an argument is not in the gap
  apart-from : (kind_in env n ≡ Some false → ⊥) → is_gap gap (place_in env n) ≡ false
  apart-from h = by_cases (is_gap gap (place_in env n)) (λ t. absurd (h (closes.argument_there n t))) (λ f. f)

  pub assigned-apart : (is_pseudo_variable n ≡ false → is_gap gap (place_in env n) ≡ false) → target_in env' g n ≡ target_without gap (target_in env g n)
  assigned-apart h = by (is_pseudo_variable n) h
    where
      by : (b : Bool) → (b ≡ false → is_gap gap (place_in env n) ≡ false) →
          (if b then to_fixed n else target_by (kind_in env' n) (place_in env' n) g n) ≡ target_without gap (if b then to_fixed n else target_by (kind_in env n) (place_in env n) g n)
      by true q = refl
      by false q = assigned-by (kind_in env n) refl (q refl)

  -- what is assigned, if it is no argument
  pub assigned-closed : (is_pseudo_variable n ≡ false → kind_in env n ≡ Some false → ⊥) → target_in env' g n ≡ target_without gap (target_in env g n)
  assigned-closed h = assigned-apart (λ e. apart-from (h e))

-- names that may be used are not in the gap
abbrev pub Hidden : (Name → Type 0) → Option ℕ → List Declared → Type 0
Hidden May gap env = (n : Name) → May n → is_gap gap (place_in env n) ≡ false

module _ (May : Name → Type 0) where
  -- behind a declaration
  hidden-one : (gap : Option ℕ) (d : Declared) (env : List Declared) → Hidden May gap env → Hidden May (inwards 1 gap) (d ∷ env)
  hidden-one gap d env h n p = by (text_eq n d.name)
    where
      by : (b : Bool) → is_gap (inwards 1 gap) (cond (not b) (1 + place_in env n) 0) ≡ false
      by true = gap-first gap
      by false = gap-back gap (place_in env n) (h n p)

  -- behind declarations of one kind
  hidden-front : (make : Name → Declared) (ns : List Name) (gap : Option ℕ) (env : List Declared) → Hidden May gap env → Hidden May (inwards (length ns) gap) (map make ns ++ env)
  hidden-front make [] gap env h = subst (λ x. Hidden May x env) (sym (inwards-none gap)) h
  hidden-front make (n ∷ ns) gap env h = subst (λ x. Hidden May x (make n ∷ (map make ns ++ env))) (inwards-suc (length ns) gap) (hidden-one (inwards (length ns) gap) (make n) (map make ns ++ env) (hidden-front make ns gap env h))

  -- inside a block
  pub hidden-inside : (ps ts : List Name) (gap : Option ℕ) (env : List Declared) → Hidden May gap env → Hidden May (inwards (length ps + length ts) gap) (opened ps ts env)
  hidden-inside ps ts gap env h =
      subst (λ x. Hidden May x (opened ps ts env)) (inwards-both (length ps) (length ts) gap) (hidden-front as_argument ps (inwards (length ts) gap) (map as_temporary ts ++ env) (hidden-front as_temporary ts gap env h))

  module _ (gap : Option ℕ) (env : List Declared) (hidden : Hidden May gap env) (g : MeaningOf Name) (n : Name) (may : May n) where
    -- what is meant outside
    outside-leaves : (m : MeaningOf Name) (k : ℕ) → is_gap gap k ≡ false → LeavesReference gap (reference_of m k n)
    outside-leaves pseudo k h = tt
    outside-leaves (argument scope) k h = h
    outside-leaves (temporary scope) k h = h
    outside-leaves (variable of_instance c) k h = tt
    outside-leaves (variable of_class_side c) k h = tt
    outside-leaves (variable of_class c) k h = tt
    outside-leaves (a_class c) k h = tt
    outside-leaves transcript k h = tt
    outside-leaves undeclared k h = tt

    outside-spares : (m : MeaningOf Name) (k : ℕ) → is_gap gap k ≡ false → LeavesTarget gap (target_of m k n)
    outside-spares pseudo k h = tt
    outside-spares (argument scope) k h = tt
    outside-spares (temporary scope) k h = h
    outside-spares (variable of_instance c) k h = tt
    outside-spares (variable of_class_side c) k h = tt
    outside-spares (variable of_class c) k h = tt
    outside-spares (a_class c) k h = tt
    outside-spares transcript k h = tt
    outside-spares undeclared k h = tt

    -- what is read is not in the gap
    pub read-leaves : LeavesReference gap (reference_in env g n)
    read-leaves = by (is_pseudo_variable n)
      where
        declared : (o : Option Bool) → LeavesReference gap (reference_by o (place_in env n) g n)
        declared (Some b) = hidden n may
        declared None = outside-leaves g (place_in env n) (hidden n may)

        by : (b : Bool) → LeavesReference gap (if b then of_word n else reference_by (kind_in env n) (place_in env n) g n)
        by true = tt
        by false = declared (kind_in env n)

    -- nor what is assigned
    pub assigned-leaves : LeavesTarget gap (target_in env g n)
    assigned-leaves = by (is_pseudo_variable n)
      where
        declared : (o : Option Bool) → LeavesTarget gap (target_by o (place_in env n) g n)
        declared (Some true) = hidden n may
        declared (Some false) = tt
        declared None = outside-spares g (place_in env n) (hidden n may)

        by : (b : Bool) → LeavesTarget gap (if b then to_fixed n else target_by (kind_in env n) (place_in env n) g n)
        by true = tt
        by false = declared (kind_in env n)

-- a last argument that is called x hides from all other names
pub last-hidden : (x : Name) (ps ts : List Name) → Hidden (λ n. text_eq x n ≡ false) (Some (length ps)) (opened (ps ++ x ∷ []) ts [])
last-hidden x [] ts n h = ap (λ b. nat_eq 0 (cond (not b) (1 + place_in (opened [] ts []) n) 0)) (text-turned n x ∙ h) ∙ ne_eqb 0 (1 + place_in (opened [] ts []) n) (λ e. omega (arith, e))
last-hidden x (p ∷ ps) ts n h =
    let e : 1 + length ps ≡ suc (length ps) = omega arith in
    subst (λ l. is_gap (Some l) (place_in (as_argument p ∷ opened (ps ++ x ∷ []) ts []) n) ≡ false) e
    (hidden-one (λ n. text_eq x n ≡ false) (Some (length ps)) (as_argument p) (opened (ps ++ x ∷ []) ts []) (last-hidden x ps ts) n h)

-- without the last argument
without-last : (x : Name) (ps : List Name) → remove (ps ++ x ∷ []) (length ps) ≡ ps
without-last x [] = refl
without-last x (p ∷ ps) = ap (λ l. p ∷ l) (without-last x ps)

pub last-gone : (x : Name) (ps ts : List Name) → Closes (Some (length ps)) (opened (ps ++ x ∷ []) ts []) (opened ps ts [])
last-gone x ps ts =
    subst (λ l. Closes (Some (length ps)) (opened (ps ++ x ∷ []) ts []) (opened l ts [])) (without-last x ps)
    (argument-gone (length ps) (ps ++ x ∷ []) ts (let e = length-append ps (x ∷ []) in omega (arith, e)))
