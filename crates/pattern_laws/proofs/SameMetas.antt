-- Metavariables of one kind and name.
use Rattle.std.proofs.Common.{◌≡◌, refl, sym, ap, ◌∙◌, List, [], ◌∷◌, arith}
use Rattle.std.specs.Prelude.{Bool, true, false, not, ◌&&◌, ◌||◌, nat_eq, cond, filter}
use Rattle.std.specs.List.{AllByRecursion, list_any}
use Rattle.std.proofs.lemmas.Bool.{false≢true, and_parts, and_from, eqb-true, eq-eqb, not-true}
use Rattle.tree_model.specs.Tree.{var}
use Rattle.pattern_model.specs.declared.kinds.MetaKind.{MetaKind}
use Rattle.pattern_model.specs.declared.kinds.MetaKind.TheVariants.{Name, Constant, Expression, Statement, StatementList, Unary, Keyword, Message}
use Rattle.pattern_model.specs.Patterns.{MetaOf}
use Rattle.pattern_model.specs.Bindings.{a_part, BindingOf, kind_number, same_meta, bound_of, doubled_by, each_once}

-- kinds are told by their numbers
pub kind_told : (j k : MetaKind) → kind_number j ≡ kind_number k → j ≡ k
kind_told Name Name e = refl
kind_told Constant Constant e = refl
kind_told Expression Expression e = refl
kind_told Statement Statement e = refl
kind_told StatementList StatementList e = refl
kind_told Unary Unary e = refl
kind_told Keyword Keyword e = refl
kind_told Message Message e = refl
kind_told j k e = let bad : ⊥ = omega (arith, e) in absurd bad

-- by whether a test holds
pub by_cases : {P : Type 0} (b : Bool) → (b ≡ true → P) → (b ≡ false → P) → P
by_cases true p q = p refl
by_cases false p q = q refl

-- a fact of each item that is kept
pub all_kept : {X : Type 0} (P : X → Type 0) (test : X → Bool) (xs : List X) → AllByRecursion P xs → AllByRecursion P (filter test xs)
all_kept P test [] h = tt
all_kept P test (x ∷ xs) h = by (test x) (all_kept P test xs h.1)
  where
    by : (b : Bool) → AllByRecursion P (filter test xs) → AllByRecursion P (cond b (x ∷ filter test xs) (filter test xs))
    by true g = (h.0, g)
    by false g = g

-- the items that are kept pass the test
pub kept_pass : {X : Type 0} (test : X → Bool) (xs : List X) → AllByRecursion (λ x. test x ≡ true) (filter test xs)
kept_pass test [] = tt
kept_pass test (x ∷ xs) = by (test x) refl (kept_pass test xs)
  where
    by : (b : Bool) → test x ≡ b → AllByRecursion (λ x. test x ≡ true) (filter test xs) → AllByRecursion (λ x. test x ≡ true) (cond b (x ∷ filter test xs) (filter test xs))
    by true e g = (e, g)
    by false e g = g

-- a weaker fact
pub all_weaker : {X : Type 0} (P Q : X → Type 0) (xs : List X) → ((x : X) → P x → Q x) → AllByRecursion P xs → AllByRecursion Q xs
all_weaker P Q [] f h = tt
all_weaker P Q (x ∷ xs) f h = (f x h.0, all_weaker P Q xs f h.1)

module _ {N : Type 0} (same : N → N → Bool) (same_refl : (n : N) → same n n ≡ true) (told : (m n : N) → same m n ≡ true → m ≡ n) where
  pub meta_refl : (m : MetaOf N) → same_meta same m m ≡ true
  meta_refl m = and_from _ _ (eq-eqb (kind_number m.kind) (kind_number m.kind) refl) (same_refl m.name)

  pub meta_told : (m n : MetaOf N) → same_meta same m n ≡ true → (m.kind ≡ n.kind) × (m.name ≡ n.name)
  meta_told m n e =
      let h = and_parts (nat_eq (kind_number m.kind) (kind_number n.kind)) (same m.name n.name) e in
      (kind_told m.kind n.kind (eqb-true (kind_number m.kind) (kind_number n.kind) h.0), told m.name n.name h.1)

  -- metavariables that are the same are the same as the same ones
  pub meta_left : (m n x : MetaOf N) → same_meta same m n ≡ true → same_meta same m x ≡ same_meta same n x
  meta_left m n x e = let h = meta_told m n e in λ i. nat_eq (kind_number (h.0 i)) (kind_number x.kind) && same (h.1 i) x.name

  pub meta_right : (m n x : MetaOf N) → same_meta same m n ≡ true → same_meta same x m ≡ same_meta same x n
  meta_right m n x e = let h = meta_told m n e in λ i. nat_eq (kind_number x.kind) (kind_number (h.0 i)) && same x.name (h.1 i)

  -- and are bound to one thing
  pub bound_same : (bs : List (BindingOf N)) (m n : MetaOf N) → same_meta same m n ≡ true → bound_of same bs m ≡ bound_of same bs n
  bound_same [] m n e = ap (λ k. a_part (var k)) (meta_told m n e).1
  bound_same (b ∷ bs) m n e = λ i. cond (meta_right m n b.meta e i) b.bound (bound_same bs m n e i)

  -- none of the metavariables is the same as another one
  abbrev pub AreApart : List (MetaOf N) → Type 0
  AreApart [] = Unit {0}
  AreApart (m ∷ ms) = AllByRecursion (λ n. same_meta same m n ≡ false) ms × AreApart ms

  kept_apart : (test : MetaOf N → Bool) (ms : List (MetaOf N)) → AreApart ms → AreApart (filter test ms)
  kept_apart test [] h = tt
  kept_apart test (m ∷ ms) h = by (test m) (kept_apart test ms h.1)
    where
      by : (b : Bool) → AreApart (filter test ms) → AreApart (cond b (m ∷ filter test ms) (filter test ms))
      by true g = (all_kept (λ n. same_meta same m n ≡ false) test ms h.0, g)
      by false g = g

  -- each once
  pub once_apart : (ms : List (MetaOf N)) → AreApart (each_once same ms)
  once_apart [] = tt
  once_apart (m ∷ ms) = (
    all_weaker (λ n. not (same_meta same m n) ≡ true) (λ n. same_meta same m n ≡ false) (filter (λ n. not (same_meta same m n)) (each_once same ms)) (λ n e. not-true (same_meta same m n) e)
        (kept_pass (λ n. not (same_meta same m n)) (each_once same ms)),
    kept_apart (λ n. not (same_meta same m n)) (each_once same ms) (once_apart ms),
  )

  -- a fact of each, which is one of all that are the same
  pub once_all : (P : MetaOf N → Type 0) → ((m n : MetaOf N) → same_meta same m n ≡ true → P m → P n) → (ms : List (MetaOf N)) → AllByRecursion P ms → AllByRecursion P (each_once same ms)
  once_all P along [] h = tt
  once_all P along (m ∷ ms) h =
      (along m (doubled_by same ms m) (meta_refl m) h.0, all_kept P (λ n. not (same_meta same m n)) (each_once same ms) (once_all P along ms h.1))

  -- one that is the same as k is kept where k is another than m
  kept_there : (m k : MetaOf N) → same_meta same m k ≡ false → (ns : List (MetaOf N)) → list_any (λ n. same_meta same n k) ns ≡ true → list_any (λ n. same_meta same n k) (filter (λ n. not (same_meta same m n)) ns) ≡ true
  kept_there m k other [] e = e
  kept_there m k other (n ∷ ns) e = by (λ g. kept_there m k other ns g) (same_meta same m n) refl (same_meta same n k) refl e
    where
      by : (list_any (λ n. same_meta same n k) ns ≡ true → list_any (λ n. same_meta same n k) (filter (λ n. not (same_meta same m n)) ns) ≡ true)
          → (b : Bool) → same_meta same m n ≡ b → (d : Bool) → same_meta same n k ≡ d → (d || list_any (λ n. same_meta same n k) ns) ≡ true
          → list_any (λ n. same_meta same n k) (cond (not b) (n ∷ filter (λ n. not (same_meta same m n)) ns) (filter (λ n. not (same_meta same m n)) ns)) ≡ true
      by f true p true q g = absurd (false≢true (sym other ∙ (meta_left m n k p ∙ q)))
      by f true p false q g = f g
      by f false p true q g = ap (λ (x : Bool). x || list_any (λ n. same_meta same n k) (filter (λ n. not (same_meta same m n)) ns)) q
      by f false p false q g = ap (λ (x : Bool). x || list_any (λ n. same_meta same n k) (filter (λ n. not (same_meta same m n)) ns)) q ∙ f g

  -- each metavariable is there once
  pub once_there : (ms : List (MetaOf N)) → AllByRecursion (λ k. list_any (λ n. same_meta same n k) (each_once same ms) ≡ true) ms
  once_there [] = tt
  once_there (m ∷ ms) =
      let others : List (MetaOf N) = filter (λ n. not (same_meta same m n)) (each_once same ms) in (
        ap (λ (x : Bool). x || list_any (λ n. same_meta same n m) others) (meta_refl m),
        all_weaker (λ k. list_any (λ n. same_meta same n k) (each_once same ms) ≡ true) (λ k. list_any (λ n. same_meta same n k) (each_once same (m ∷ ms)) ≡ true) ms
            (λ k e.
            by_cases (same_meta same m k)
            (λ p. ap (λ (x : Bool). x || list_any (λ n. same_meta same n k) others) p)
            (λ p. ap (λ (x : Bool). x || list_any (λ n. same_meta same n k) others) p ∙ kept_there m k p (each_once same ms) e))
            (once_there ms),
      )
