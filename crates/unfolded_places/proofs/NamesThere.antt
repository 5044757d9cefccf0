-- What names mean inside further declarations.
use Rattle.std.proofs.Common.{◌≡◌, ℕ, zero, suc, ◌+◌, List, [], ◌∷◌, ◌++◌, length, Option, Some, None, refl, sym, ap, ◌∙◌, subst, arith, append_assoc}
use Rattle.std.specs.Prelude.{Bool, true, false, not, cond, if◌then◌else◌, find, slice_get, option_map, map, replicate}
use Rattle.std.proofs.Math.Numerals.{one-add}
use Rattle.rb_base.specs.Names.{text_eq}
use Rattle.scope_model.specs.SpecialNames.{is_pseudo_variable}
use Rattle.tree_model.specs.Tree.{TreeOf, TreesOf}
use Rattle.image_model.specs.Means.{MeaningOf}
use Rattle.run_model.specs.Values.{Name}
use Rattle.resolved_model.specs.ResolvedTrees.{of_word, of_local, Target}
use Rattle.resolved_model.specs.Resolving.{reference_of}
use Rattle.resolved_model.specs.Environments.{Declared, as_argument, opened, kind_in, place_in, reference_by, target_by, reference_in, target_in, as_temporary}
use Rattle.unfolded_calls.specs.Unfolding.{shared, staying, StandIn, moved}
use Rattle.unfolded_calls.specs.SameContexts.{same_locals}
use Rattle.unfolded_calls.proofs.Untouched.{staying-all}
use Rattle.unfolded_places.specs.Inlining.{passed_for, PlainActual, PlainActuals, plain_none, plain_more}

-- references by what is known
pub word-read : (E : List Declared) (m : MeaningOf Name) (n : Name) → is_pseudo_variable n ≡ true → reference_in E m n ≡ of_word n
word-read E m n e = λ i. if e i then of_word n else reference_by (kind_in E n) (place_in E n) m n

pub local-read : (E : List Declared) (m : MeaningOf Name) (n : Name) (b : Bool) → is_pseudo_variable n ≡ false → kind_in E n ≡ Some b → reference_in E m n ≡ of_local (place_in E n)
local-read E m n b e k = λ i. if e i then of_word n else reference_by (k i) (place_in E n) m n

pub outer-read : (E : List Declared) (m : MeaningOf Name) (n : Name) → is_pseudo_variable n ≡ false → kind_in E n ≡ None → reference_in E m n ≡ reference_of m (place_in E n) n
outer-read E m n e k = λ i. if e i then of_word n else reference_by (k i) (place_in E n) m n

pub known-target : (E : List Declared) (m : MeaningOf Name) (n : Name) (o : Option Bool) → is_pseudo_variable n ≡ false → kind_in E n ≡ o → target_in E m n ≡ target_by o (place_in E n) m n
known-target E m n o e k = λ i. if e i then Target.to_fixed n else target_by (k i) (place_in E n) m n

-- a name that is declared in front
pub kind-first : (xs ys : List Declared) (n : Name) (b : Bool) → kind_in xs n ≡ Some b → (kind_in (xs ++ ys) n ≡ Some b) × (place_in (xs ++ ys) n ≡ place_in xs n)
kind-first [] ys n b e = absurd (cc)
kind-first (d ∷ xs) ys n b e = by (text_eq n d.name) (kind-first xs ys n b) e
  where
    by : (c : Bool) → (kind_in xs n ≡ Some b → (kind_in (xs ++ ys) n ≡ Some b) × (place_in (xs ++ ys) n ≡ place_in xs n)) →
        option_map (λ (d : Declared). d.is_temporary) (cond c (Some d) (find (λ (d : Declared). text_eq n d.name) xs)) ≡ Some b →
        (option_map (λ (d : Declared). d.is_temporary) (cond c (Some d) (find (λ (d : Declared). text_eq n d.name) (xs ++ ys))) ≡ Some b) × (cond (not c) (1 + place_in (xs ++ ys) n) 0 ≡ cond (not c) (1 + place_in xs n) 0)
    by true ih q = (q, refl)
    by false ih q = ((ih q).0, ap (λ k. 1 + k) (ih q).1)

-- a name that is declared behind
pub kind-behind : (xs ys : List Declared) (n : Name) → kind_in xs n ≡ None → (kind_in (xs ++ ys) n ≡ kind_in ys n) × (place_in (xs ++ ys) n ≡ length xs + place_in ys n)
kind-behind [] ys n e = (refl, none (place_in ys n))
  where
    none : (k : ℕ) → k ≡ 0 + k
    none k = omega arith
kind-behind (d ∷ xs) ys n e = by (text_eq n d.name) (kind-behind xs ys n) e
  where
    next : (l k : ℕ) → 1 + (l + k) ≡ suc l + k
    next l k = omega arith

    by : (c : Bool) → (kind_in xs n ≡ None → (kind_in (xs ++ ys) n ≡ kind_in ys n) × (place_in (xs ++ ys) n ≡ length xs + place_in ys n)) →
        option_map (λ (d : Declared). d.is_temporary) (cond c (Some d) (find (λ (d : Declared). text_eq n d.name) xs)) ≡ None →
        (option_map (λ (d : Declared). d.is_temporary) (cond c (Some d) (find (λ (d : Declared). text_eq n d.name) (xs ++ ys))) ≡ kind_in ys n) × (cond (not c) (1 + place_in (xs ++ ys) n) 0 ≡ suc (length xs) + place_in ys n)
    by true ih q = absurd (cc)
    by false ih q = ((ih q).0, ap (λ k. 1 + k) (ih q).1 ∙ next (length xs) (place_in ys n))

-- what is declared once a scope is entered, behind other declarations
pub opened-append : (ps ts : List Name) (inner env : List Declared) → opened ps ts (inner ++ env) ≡ opened ps ts inner ++ env
opened-append ps ts inner env =
    ap (λ l. map as_argument ps ++ l) (sym (append_assoc (map as_temporary ts) inner env)) ∙ sym (append_assoc (map as_argument ps) (map as_temporary ts ++ inner) env)

-- what stands behind a list
pub get-behind : {X : Type 0} (xs ys : List X) (l k : ℕ) → length xs ≡ l → slice_get (xs ++ ys) (l + k) ≡ slice_get ys k
get-behind [] ys l k e =
    let q : l + k ≡ k = omega (arith, e) in
    ap (slice_get ys) q
get-behind (x ∷ xs) ys l k e = ap (λ n. slice_get (x ∷ (xs ++ ys)) (n + k)) (sym e) ∙ ap (slice_get (x ∷ (xs ++ ys))) (next (length xs) k) ∙ get-behind xs ys (length xs) k refl
  where
    next : (l k : ℕ) → suc l + k ≡ suc (l + k)
    next l k = omega arith

-- how many locals there are, and one of them inside further scopes
pub locals-count : (env : List Declared) (k : ℕ) → length (same_locals env k) ≡ length env
locals-count [] k = refl
locals-count (d ∷ env) k = ap suc (locals-count env (suc k))

pub get-moved : (n : ℕ) (actuals : List StandIn) (k : ℕ) (a : StandIn) → slice_get actuals k ≡ Some a → slice_get (map (moved n) actuals) k ≡ Some (moved n a)
get-moved n [] k a e = absurd (cc)
get-moved n (x ∷ xs) zero a e = ap (λ y. Some (moved n y)) (some e)
  where
    some : {x y : StandIn} → Some x ≡ Some y → x ≡ y
    some z = cc
get-moved n (x ∷ xs) (suc k) a e = get-moved n xs k a e

-- how many are declared inside further scopes
pub opened-count : (ps ts : List Name) (inner : List Declared) → (length ps + staying (replicate (length ts) shared)) + length inner ≡ length (opened ps ts inner)
opened-count ps ts inner = ap (λ n. (length ps + n) + length inner) (staying-all (length ts)) ∙ sum ps
  where
    inside : (ts : List Name) → length ts + length inner ≡ length (map as_temporary ts ++ inner)
    inside [] = none (length inner)
      where
        none : (k : ℕ) → 0 + k ≡ k
        none k = omega arith
    inside (t ∷ ts) = next (length ts) (length inner) ∙ ap suc (inside ts)
      where
        next : (l k : ℕ) → suc l + k ≡ suc (l + k)
        next l k = omega arith

    sum : (ps : List Name) → (length ps + length ts) + length inner ≡ length (opened ps ts inner)
    sum [] = none (length ts) (length inner) ∙ inside ts
      where
        none : (l k : ℕ) → (0 + l) + k ≡ l + k
        none l k = omega arith
    sum (p ∷ ps) = next (length ps) (length ts) (length inner) ∙ ap suc (sum ps)
      where
        next : (l k j : ℕ) → (suc l + k) + j ≡ suc ((l + k) + j)
        next l k j = omega arith

-- what is passed for a formal argument
pub record PassedAt (f : Name → MeaningOf Name) (A : List Declared) (ps : List Name) (actuals : List StandIn) (n : Name) (t : TreeOf Name) : Type 0 where
  pub stand_in : StandIn
  pub plain : PlainActual f A t stand_in
  pub kind : kind_in (opened ps [] []) n ≡ Some false
  pub there : slice_get actuals (place_in (opened ps [] []) n) ≡ Some stand_in

pub passed-at : (f : Name → MeaningOf Name) (A : List Declared) (ps : List Name) (args : TreesOf Name) (actuals : List StandIn) (n : Name) (t : TreeOf Name) → PlainActuals f A args actuals → passed_for ps args n ≡ Some t → PassedAt f A ps actuals n t
passed-at f A [] args actuals n t h e = absurd (cc)
passed-at f A (p ∷ ps) _ _ n t plain_none e = absurd (cc)
passed-at f A (p ∷ ps) _ _ n t (plain_more {t = u} {ts = ts} {a = a} {rest = rest} h r) e = by (text_eq n p) (passed-at f A ps ts rest n t r) e refl
  where
    some : {x y : TreeOf Name} → Some x ≡ Some y → x ≡ y
    some z = cc

    kind-so : (c : Bool) → text_eq n p ≡ c → kind_in (opened (p ∷ ps) [] []) n ≡ option_map (λ (d : Declared). d.is_temporary) (cond c (Some (as_argument p)) (find (λ (d : Declared). text_eq n d.name) (opened ps [] [])))
    kind-so c q = ap (λ c. option_map (λ (d : Declared). d.is_temporary) (cond c (Some (as_argument p)) (find (λ (d : Declared). text_eq n d.name) (opened ps [] [])))) q

    place-so : (c : Bool) → text_eq n p ≡ c → place_in (opened (p ∷ ps) [] []) n ≡ cond (not c) (1 + place_in (opened ps [] []) n) 0
    place-so c q = ap (λ c. cond (not c) (1 + place_in (opened ps [] []) n) 0) q

    by : (c : Bool) → (passed_for ps ts n ≡ Some t → PassedAt f A ps rest n t) → (if c then Some u else passed_for ps ts n) ≡ Some t → text_eq n p ≡ c → PassedAt f A (p ∷ ps) (a ∷ rest) n t
    by true ih e q = record { stand_in = a; plain = subst (λ x. PlainActual f A x a) (some e) h; kind = kind-so true q; there = ap (slice_get (a ∷ rest)) (place-so true q) }
    by false ih e q =
        let x = ih e in
        record { stand_in = x.stand_in; plain = x.plain; kind = kind-so false q ∙ x.kind; there = ap (slice_get (a ∷ rest)) (place-so false q ∙ one-add (place_in (opened ps [] []) n)) ∙ x.there }
